-- `enc::fast::marks` meets its contract. Assumes nothing.
use Prim.Native.Nat.{◌+◌, ◌-◌}
use Rattle.enc.specs.Fast.{Short, Open, Kept}
use Rattle.enc.proofs.fast.marks.Given as goal

abbrev pub invariant-loop-k : goal.invariant-loop-k
invariant-loop-k l = Short l.place (l.s.at + 16) × Open l.src (l.s.from + l.k) l.place (l.s.at + l.k) (16 - l.k) l.dest × Kept l.src l.initial.dest l.dest
