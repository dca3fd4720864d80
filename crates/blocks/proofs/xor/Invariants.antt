-- `blocks::xor` meets its contract. Assumes nothing.
use mathlib.Core.Path.{◌≡◌}
use Rattle.blocks.specs.Blocks.{masked_front}
use Rattle.blocks.proofs.xor.Given as goal

abbrev pub invariant-loop-b : goal.invariant-loop-b
invariant-loop-b l = l.s ≡ masked_front l.v l.b-index l.initial.s
