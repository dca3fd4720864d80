-- `enc::stream::Encoder::finalize` meets its contract: a good state asks for its code at its place. Assumes nothing.
use mathlib.Core.Path.{sym, ◌∙◌}
use native.Mathlib.Omega.{arith}
use Rattle.enc.proofs.Pieces.{passed, finished_open}
use Rattle.enc.proofs.Calls.{good-sound, finalize-asks, finalize_not_bad, finish-bad, finish-full, finish-open}
use Rattle.enc.proofs.stream.Encoder.finalize.Goals as goal

pub returns-then-is_bad : goal.returns-then-is_bad
returns-then-is_bad c =
    let both = finish-bad _ _ (sym c.is_bad.ensures ∙ c.if-is_bad.true) in
    record { answer = both.0; memory = both.1 }

pub returns-in_err-place : goal.returns-in_err-place
returns-in_err-place c =
    let g = passed _ _ c.is_bad.ensures c.if-is_bad.false in
    absurd (finalize_not_bad _ (good-sound _ _ g (omega arith)) _ c.in_err-place.ensures.state)

pub returns-then-self : goal.returns-then-self
returns-then-self c =
    let g = passed _ _ c.is_bad.ensures c.if-is_bad.false in
    let asked = finalize-asks _ (good-sound _ _ g (omega arith)) _ c.in_ok-place.ensures.state in
    let both = finish-full _ _ g c.if-self.true _ asked.0 in
    record { answer = both.0; memory = both.1 }

pub bounds-dest-place : goal.bounds-dest-place
bounds-dest-place c =
    let g = passed _ _ c.is_bad.ensures c.if-is_bad.false in
    let asked = finalize-asks _ (good-sound _ _ g (omega arith)) _ c.in_ok-place.ensures.state in
    omega (arith, asked.0, finished_open c.args.self c.if-self.false, g.fits, g.group.some)

pub overflow_add-result : goal.overflow_add-result
overflow_add-result c =
    let g = passed _ _ c.is_bad.ensures c.if-is_bad.false in
    let s = good-sound _ _ g (omega arith) in
    omega (arith, finalize-asks _ s _ c.in_ok-place.ensures.state, s.low, s.group.few)

pub returns : goal.returns
returns c =
    let g = passed _ _ c.is_bad.ensures c.if-is_bad.false in
    let asked = finalize-asks _ (good-sound _ _ g (omega arith)) _ c.in_ok-place.ensures.state in
    let both = finish-open _ _ g c.if-self.false _ _ asked.0 asked.1 in
    record { answer = both.0; memory = both.1 }
