-- `batch::Receiver::limit` meets its contract. Assumes nothing.
use Rattle.batch.proofs.Ways.{limit-open, limit-taken}
use Rattle.batch.proofs.Receiver.limit.Goals as goal

pub returns-in-None : goal.returns-in-None
returns-in-None c = search (limit-open)

pub returns-in-Some : goal.returns-in-Some
returns-in-Some c = search (limit-taken)
