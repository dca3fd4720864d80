-- `place::sentinel::decode_with_sentinel` meets its contract: a law for each way through it. Assumes nothing.
use mathlib.Core.Path.{sym, ap, ◌∙◌}
use Rattle.std.proofs.lemmas.Result.{err_from_is_err_and}
use Rattle.place.specs.Calls.{refused, place_told}
use Rattle.place.proofs.Refusals.{same_refusal, never_done}
use Rattle.place.proofs.Measured.{with-refused, with-small, with_size}
use Rattle.place.proofs.sentinel.decode_with_sentinel.Goals as goal

pub returns-in_err-size : goal.returns-in_err-size
returns-in_err-size c =
    let a = c.args in
    let e = c.in_err-size.field-0.0 in
    let p = err_from_is_err_and c.from_residual.result c.from_residual.ensures.1 in
    let q = with-refused a.sentinel a.src.now a.dest.now (refused e) c.in_err-size.ensures (never_done e) in
    record { answer = rw (p.1, p.2) (same_refusal e ∙ q.0); memory = q.1 }

pub returns-then-dest-size : goal.returns-then-dest-size
returns-then-dest-size c =
    let a = c.args in
    let both = with-small a.sentinel a.src.now a.dest.now _ (ap place_told (sym c.in_ok-size.was) ∙ c.measured.ensures) c.if-dest-size.true in
    record { answer = both.0; memory = both.1 }

pub returns : goal.returns
returns c =
    let a = c.args in
    let both = with_size a.sentinel a.src.now a.dest.now _ (ap place_told (sym c.in_ok-size.was) ∙ c.measured.ensures) c.if-dest-size.false _ c.feed_masked.ensures in
    record { answer = both.0; memory = both.1 }
