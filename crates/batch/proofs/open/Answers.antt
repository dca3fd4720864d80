-- `batch::open` meets its contract. Assumes nothing.
use Rattle.batch.proofs.Effects.{open_is}
use Rattle.batch.proofs.open.Goals as goal

pub returns : goal.returns
returns c =
    search (open_is)
