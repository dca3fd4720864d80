-- `place::place::decode_in_place_report` meets its contract: `Downward` has the turn. Assumes nothing.
use Prim.Native.Nat.{◌-◌}
use Rattle.place.proofs.Downward.{Walked}
use Rattle.place.proofs.place.decode_in_place_report.Given as goal

abbrev pub invariant-loop-next : goal.invariant-loop-next
invariant-loop-next l = Walked l.initial.buf l.buf l.walk

abbrev pub decreases-loop-next : goal.decreases-loop-next
decreases-loop-next l = l.walk.end - l.walk.from
