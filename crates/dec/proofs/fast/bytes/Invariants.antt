-- `dec::fast::bytes` meets its contract: `k` bytes are passed. Assumes nothing.
use Rattle.dec.specs.Helpers.{Passed}
use Rattle.dec.proofs.fast.bytes.Given as goal

abbrev pub invariant-loop-k : goal.invariant-loop-k
invariant-loop-k l = Passed l.piece l.from l.to l.initial.dest l.most l.k l.dest
