-- `place::sentinel::measured` meets its contract: group by group, as in place. Assumes nothing.
use Prim.Native.Nat.{◌-◌}
use Rattle.cobs.specs.Code.{masked}
use Rattle.place.proofs.Measured.{Sized}
use Rattle.place.proofs.sentinel.measured.Given as goal

abbrev pub invariant-loop-walk : goal.invariant-loop-walk
invariant-loop-walk l = Sized (masked l.sentinel l.src) l.walk

abbrev pub decreases-loop-walk : goal.decreases-loop-walk
decreases-loop-walk l = l.walk.end - l.walk.from
