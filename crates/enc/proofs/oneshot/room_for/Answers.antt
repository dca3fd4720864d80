-- `enc::oneshot::room_for` meets its contract: either test of the first line is enough. Assumes nothing.
use mathlib.Core.Path.{sym, ◌∙◌}
use native.Mathlib.Omega.{arith}
use borrow.Author.Tests.{leb-true}
use Rattle.cobs.proofs.Encoding.{encode-length}
use Rattle.enc.proofs.Forms.{fits_is}
use Rattle.enc.proofs.oneshot.room_for.Goals as goal
use Rattle.enc.proofs.oneshot.room_for.Goals.{then-most-room, else-most-room}

pub returns-then-measured-room : goal.returns-then-measured-room
returns-then-measured-room c = elim c.if-most-room.branch [
  | then-most-room w ↦ fits_is _ _ (omega (arith, encode-length c.args.src.now))
  | else-most-room w ↦ fits_is _ _ (omega (arith, leb-true _ _ (sym w.value-is ∙ c.if-measured-room.true)))
]
