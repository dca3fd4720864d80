-- `record::frame::check` meets its contract. Assumes nothing.
use Rattle.record.proofs.Frames.{Left}
use Rattle.record.proofs.frame.check.Given as goal

abbrev pub invariant-loop-number : goal.invariant-loop-number
invariant-loop-number l = Left l.message l.number
