use Rattle.std.proofs.Common.{length, ◌≤◌}
use Rattle.demo.proofs.receiving.deliver.Given as goal

abbrev pub invariant-loop-left : goal.invariant-loop-left
invariant-loop-left g l = length l.left ≤ length l.stream

abbrev pub decreases-loop-left : goal.decreases-loop-left
decreases-loop-left g l = length l.left
