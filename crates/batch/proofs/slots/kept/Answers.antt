-- `batch::slots::kept` meets its contract. Assumes nothing.
use Rattle.batch.proofs.Effects.{kept_store, kept-none}
use Rattle.batch.proofs.slots.kept.Goals as goal

pub returns-in-Store : goal.returns-in-Store
returns-in-Store c = search (kept_store)

pub returns-in_default : goal.returns-in_default
returns-in_default c = search (kept-none)
