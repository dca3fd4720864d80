-- `dec::stream::CobsDecoder::push` meets its contract: what is left of the piece comes to the same. Assumes nothing.
use mathlib.Core.Path.{refl, sym, ap, ◌∙◌}
use Prim.Native.Nat.{◌<◌}
use native.Mathlib.Omega.{arith}
use lib.ListN.{length}
use Rattle.dec.specs.Stream.{Answer, outcome}
use Rattle.dec.proofs.Turns.{ahead-further, push-bad, push-ends, push-stops, push_goes}
use Rattle.dec.proofs.Answers.{unlike-more, like-more}
use Rattle.dec.proofs.stream.CobsDecoder.push.Goals as goal

pub returns-then-bad : goal.returns-then-bad
returns-then-bad c =
    let both = push-bad _ _ _ (sym c.bad.ensures ∙ c.if-bad.true) in
    record { answer = both.0; memory = both.1 }

pub returns-then-i-piece : goal.returns-then-i-piece
returns-then-i-piece c =
    let far = ahead-further c.loop-i.invariant.1 c.ahead-went.ensures.decoded in
    let both = push-ends _ _ _ (sym c.bad.ensures ∙ c.if-bad.false) _ _ _ far (omega (arith, c.if-i-piece.true)) in
    record { answer = both.0; memory = both.1 }

pub returns-then-ne : goal.returns-then-ne
returns-then-ne c =
    let far = ahead-further c.loop-i.invariant.1 c.ahead-went.ensures.decoded in
    let inside : c.ahead-went.result.i < length c.args.piece.now = omega (arith, c.ahead-went.ensures.within, c.if-i-piece.false) in
    let both = push-stops _ _ _ (sym c.bad.ensures ∙ c.if-bad.false) _ _ _ far inside _ refl _ c.take-taken.ensures.answer _ c.take-taken.ensures.memory (unlike-more _ _ c.take-taken.result _ c.ne.ensures c.if-ne.true) in
    record { answer = both.0; memory = both.1 }

pub loop-i-preserved : goal.loop-i-preserved
loop-i-preserved c =
    let far = ahead-further c.loop-i.invariant.1 c.ahead-went.ensures.decoded in
    let inside : c.ahead-went.result.i < length c.args.piece.now = omega (arith, c.ahead-went.ensures.within, c.if-i-piece.false) in
    let more = ap (λ (a : Answer). outcome (record { next = c.take-taken.result.next; answer = a })) (like-more _ _ c.take-taken.result _ c.ne.ensures c.if-ne.false) in
    (omega (arith, inside), push_goes _ _ _ (sym c.bad.ensures ∙ c.if-bad.false) _ _ _ far inside _ refl _ c.take-taken.ensures.answer _ c.take-taken.ensures.memory _ more)
