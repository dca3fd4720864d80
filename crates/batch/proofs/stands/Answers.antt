-- `batch::stands` meets its contract. Assumes nothing.
use Rattle.batch.proofs.Ways.{stands-bad, stands_good}
use Rattle.batch.proofs.stands.Goals as goal

pub returns-then-is_bad : goal.returns-then-is_bad
returns-then-is_bad c = search (stands-bad)

pub returns : goal.returns
returns c = search (stands_good)
