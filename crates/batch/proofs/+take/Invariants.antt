-- `batch::take` calls itself: the measure is what is left of the frame. Assumes nothing.
use Rattle.std.proofs.Common.{length, ◌-◌}
use Rattle.batch.proofs.+take.Given as goal

abbrev pub decreases-take : goal.decreases-take
decreases-take l = length l.frame.now - l.at
