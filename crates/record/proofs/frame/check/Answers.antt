-- `record::frame::check` meets its contract. Assumes nothing.
use Rattle.std.proofs.Common.{sym, ◌∙◌, arith}
use Rattle.record.proofs.Frames.{left-more, left-bad, left-none}
use Rattle.record.proofs.Framing.{told_records}
use Rattle.record.proofs.frame.check.Goals as goal

pub returns-then-is_err : goal.returns-then-is_err
returns-then-is_err c =
    told_records _ (sym c.is_bad_length.ensures ∙ c.if-is_bad_length.false)
    (left-bad _ _ c.loop-number.invariant c.loop-number-test.true _ c.read.ensures.found (sym c.is_err.ensures.value ∙ c.if-is_err.true))

pub loop-number-preserved : goal.loop-number-preserved
loop-number-preserved c = left-more _ _ c.loop-number.invariant c.loop-number-test.true _ c.read.ensures.found (sym c.is_err.ensures.value ∙ c.if-is_err.false)

pub returns : goal.returns
returns c =
    told_records _ (sym c.is_bad_length.ensures ∙ c.if-is_bad_length.false)
    (left-none _ _ c.loop-number.invariant (omega arith))
