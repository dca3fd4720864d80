-- `dec::decode::decode` meets its contract: a law for each way through it. Assumes nothing.
use Rattle.std.proofs.lemmas.Result.{err_from_is_err_and}
use mathlib.Core.Path.{sym, ap, ◌∙◌}
use Rattle.std.specs.Prelude.{Ok}
use borrow.Author.Tests.{eqb-true, eqb-false}
use Rattle.dec.proofs.Decoding.{decode_empty, decode-refused, decode-found, closed-refused, closed-none, closed-frame}
use Rattle.dec.proofs.decode.decode.Goals as goal

pub returns-then-is_empty : goal.returns-then-is_empty
returns-then-is_empty c =
    let both = decode_empty _ _ (eqb-true _ _ (sym c.is_empty.ensures ∙ c.if-is_empty.true)) in
    record { answer = both.0; memory = both.1 }

pub returns-in_err-frame : goal.returns-in_err-frame
returns-in_err-frame c =
    let p = c.push-pushed in
    let both = decode-refused _ _ (eqb-false _ _ (sym c.is_empty.ensures ∙ c.if-is_empty.false)) _ c.new.ensures p.result p.ensures.answer _ p.ensures.memory _ c.in_err-frame.was in
    let r = err_from_is_err_and c.from_residual.result c.from_residual.ensures.1 in
    rw (r.1, r.2) (record { answer = both.0; memory = both.1 })

pub returns-in-Some : goal.returns-in-Some
returns-in-Some c =
    let p = c.push-pushed in
    let both = decode-found _ _ (eqb-false _ _ (sym c.is_empty.ensures ∙ c.if-is_empty.false)) _ c.new.ensures p.result p.ensures.answer _ p.ensures.memory _ (c.in_ok-frame.was ∙ ap Ok c.in-Some.is) in
    record { answer = both.0; memory = both.1 }

pub returns-in_err-frame-2 : goal.returns-in_err-frame-2
returns-in_err-frame-2 c =
    let p = c.push-pushed in
    let z = c.feed-closed in
    let both = closed-refused _ _ (eqb-false _ _ (sym c.is_empty.ensures ∙ c.if-is_empty.false)) _ c.new.ensures p.result p.ensures.answer _ p.ensures.memory (c.in_ok-frame.was ∙ ap Ok c.in_default.is) p.auto.dest
    z.result z.ensures.answer _ z.ensures.memory _ c.in_err-frame-2.was in
    let r = err_from_is_err_and c.from_residual-in_err-frame-2.result c.from_residual-in_err-frame-2.ensures.1 in
    rw (r.1, r.2) (record { answer = both.0; memory = both.1 })

pub returns-in_default-2 : goal.returns-in_default-2
returns-in_default-2 c =
    let p = c.push-pushed in
    let z = c.feed-closed in
    let both = closed-none _ _ (eqb-false _ _ (sym c.is_empty.ensures ∙ c.if-is_empty.false)) _ c.new.ensures p.result p.ensures.answer _ p.ensures.memory (c.in_ok-frame.was ∙ ap Ok c.in_default.is) p.auto.dest
    z.result z.ensures.answer _ z.ensures.memory (c.in_ok-frame-2.was ∙ ap Ok c.in_default-2.is) in
    record { answer = both.0; memory = both.1 }

pub returns : goal.returns
returns c =
    let p = c.push-pushed in
    let z = c.feed-closed in
    let both = closed-frame _ _ (eqb-false _ _ (sym c.is_empty.ensures ∙ c.if-is_empty.false)) _ c.new.ensures p.result p.ensures.answer _ p.ensures.memory (c.in_ok-frame.was ∙ ap Ok c.in_default.is) p.auto.dest
    z.result z.ensures.answer _ z.ensures.memory _ (c.in_ok-frame-2.was ∙ ap Ok c.in-Some-2.is) in
    record { answer = both.0; memory = both.1 }
