-- `enc::fast::put` meets its contract. Assumes nothing.
use Prim.Native.Nat.{◌-◌}
use lib.ListN.{length}
use Rattle.enc.specs.Fast.{Short, Open, Kept}
use Rattle.enc.proofs.fast.put.Given as goal

abbrev pub invariant-loop-s : goal.invariant-loop-s
invariant-loop-s l = Open l.src l.s.from l.s.place l.s.at 0 l.dest × Kept l.src l.initial.dest l.dest × Short l.s.place l.s.at

abbrev pub decreases-loop-s : goal.decreases-loop-s
decreases-loop-s l = length l.src - l.s.from
