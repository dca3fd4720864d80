-- `dec::stream::CobsDecoder::push` meets its contract: what is left of the piece comes to the same. Assumes nothing.
use Prim.Native.Nat.{◌-◌, ◌≤◌}
use lib.ListN.{length}
use Rattle.dec.specs.Helpers.{Ahead}
use Rattle.dec.proofs.stream.CobsDecoder.push.Given as goal

abbrev pub invariant-loop-i : goal.invariant-loop-i
invariant-loop-i l = (l.i ≤ length l.piece) × Ahead (length l.initial.dest) l.piece 0 l.initial.decoder l.initial.dest l.i l.decoder l.dest

abbrev pub decreases-loop-i : goal.decreases-loop-i
decreases-loop-i l = length l.piece - l.i
