-- `blocks::write16` meets its contract. Assumes nothing.
use mathlib.Core.Path.{◌≡◌}
use lib.Seq.{paste}
use Rattle.blocks.proofs.write16.Given as goal

abbrev pub invariant-loop-k : goal.invariant-loop-k
invariant-loop-k l = l.dest ≡ paste l.initial.dest l.at l.block l.k
