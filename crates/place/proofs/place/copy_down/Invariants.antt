-- `place::place::copy_down` meets its contract: `k` bytes are copied. Assumes nothing.
use mathlib.Core.Path.{◌≡◌}
use lib.ListN.{length, drop}
use lib.Seq.{paste}
use Rattle.place.proofs.place.copy_down.Given as goal

abbrev pub invariant-loop-k : goal.invariant-loop-k
invariant-loop-k l = (length l.buf ≡ length l.initial.buf) × (l.buf ≡ paste l.initial.buf l.to (drop l.from l.initial.buf) l.k)
