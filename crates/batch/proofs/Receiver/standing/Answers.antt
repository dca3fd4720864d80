-- `batch::Receiver::standing` meets its contract. Assumes nothing.
use Rattle.batch.proofs.Ways.{stands-open, stands-missing, stands-complete, stands-differs}
use Rattle.batch.proofs.Receiver.standing.Goals as goal

pub returns-in_default : goal.returns-in_default
returns-in_default c = search (stands-open)

pub returns-then-close-marked : goal.returns-then-close-marked
returns-then-close-marked c = search (stands-missing)

pub returns-then-self-close : goal.returns-then-self-close
returns-then-self-close c = search (stands-complete)

pub returns : goal.returns
returns c = search (stands-differs)
