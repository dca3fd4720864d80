-- `batch::Receiver::apply` meets its contract. Assumes nothing.
use Rattle.batch.proofs.Effects.{after_repeat, after_store, after-close, sum_fits}
use Rattle.batch.proofs.Receiver.apply.Goals as goal

pub overflow_add-self : goal.overflow_add-self
overflow_add-self c = search (sum_fits)

pub returns-in-Repeat : goal.returns-in-Repeat
returns-in-Repeat c = search (after_repeat)

pub returns-in-Store : goal.returns-in-Store
returns-in-Store c = search (after_store)

pub returns-in-Close : goal.returns-in-Close
returns-in-Close c = search (after-close)
