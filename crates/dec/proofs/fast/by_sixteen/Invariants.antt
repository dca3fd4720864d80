-- `dec::fast::by_sixteen` meets its contract: block by block. Assumes nothing.
use Prim.Native.Nat.{◌-◌}
use lib.ListN.{length}
use Rattle.dec.proofs.Sixteen.{Blocks}
use Rattle.dec.proofs.fast.by_sixteen.Given as goal

abbrev pub invariant-loop-dest : goal.invariant-loop-dest
invariant-loop-dest l = Blocks l.piece l.from l.initial.dest l.to l.initial.group l.dest l.i l.place l.group

abbrev pub decreases-loop-dest : goal.decreases-loop-dest
decreases-loop-dest l = length l.piece - l.i
