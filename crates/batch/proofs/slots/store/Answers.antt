-- `batch::slots::store` meets its contract. Assumes nothing.
use Rattle.batch.proofs.Effects.{stored-new, stored-none}
use Rattle.batch.proofs.slots.store.Goals as goal

pub returns-in-Store : goal.returns-in-Store
returns-in-Store c = search (stored-new)

pub returns-in_default : goal.returns-in_default
returns-in_default c = search (stored-none)
