-- `batch::Receiver::ours` meets its contract. Assumes nothing.
use Rattle.batch.proofs.Ways.{ours-particle, ours-close}
use Rattle.batch.proofs.Receiver.ours.Goals as goal

pub returns-in-Particle : goal.returns-in-Particle
returns-in-Particle c = search (ours-particle)

pub returns-in-Close : goal.returns-in-Close
returns-in-Close c = search (ours-close)
