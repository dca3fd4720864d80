-- `enc::oneshot::after_last_zero` meets its contract. Assumes nothing.
use Prim.Native.Nat.{◌≤◌}
use Rattle.enc.proofs.Counted.{Clean}
use Rattle.enc.proofs.oneshot.after_last_zero.Given as goal

abbrev pub invariant-loop-end : goal.invariant-loop-end
invariant-loop-end l = (l.from ≤ l.end) × (l.end ≤ l.to) × Clean l.src l.end l.to

abbrev pub decreases-loop-end : goal.decreases-loop-end
decreases-loop-end l = l.end
