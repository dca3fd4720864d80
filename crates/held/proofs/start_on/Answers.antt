-- `held::start_on` meets its contract: where `start` gives an encoder, it is fresh. Assumes nothing.
use mathlib.Core.Path.{sym}
use Rattle.enc.proofs.Calls.{ready_fresh}
use Rattle.held.proofs.start_on.Goals as goal

pub returns-in-Ok-clause-encoder : goal.returns-in-Ok-clause-encoder
returns-in-Ok-clause-encoder c = (ready_fresh _ _ (sym c.in-Ok.ensures.state)).1
