-- `enc::stream::store` meets its contract: past the end nothing is stored. Assumes nothing.
use mathlib.Core.Path.{sym}
use lib.Seq.{set_out}
use Rattle.enc.proofs.stream.store.Goals as goal

pub returns-else-at-dest : goal.returns-else-at-dest
returns-else-at-dest c = sym (set_out _ _ _ c.if-at-dest.false)
