-- `enc::fast::bytes` meets its contract. Assumes nothing.
use Prim.Native.Nat.{◌+◌}
use Rattle.enc.specs.Fast.{Open, Kept}
use Rattle.enc.proofs.fast.bytes.Given as goal

abbrev pub invariant-loop-k : goal.invariant-loop-k
invariant-loop-k l = Open l.src (l.s.from + l.k) l.s.place (l.s.at + l.k) 0 l.dest × Kept l.src l.initial.dest l.dest
