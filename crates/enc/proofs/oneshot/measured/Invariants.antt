-- `enc::oneshot::measured` meets its contract. Assumes nothing.
use mathlib.Core.Path.{◌≡◌}
use Prim.Native.Nat.{◌+◌, ◌-◌, ◌≤◌}
use lib.ListN.{length, drop}
use Rattle.cobs.specs.Code.{encode}
use Rattle.enc.proofs.oneshot.measured.Given as goal

abbrev pub invariant-loop-start : goal.invariant-loop-start
invariant-loop-start l = (l.start ≤ length l.src) × (l.more ≤ l.start + 1) × (l.start + l.more + length (encode (drop l.start l.src)) ≡ length (encode l.src) + 1)

abbrev pub decreases-loop-start : goal.decreases-loop-start
decreases-loop-start l = length l.src - l.start
