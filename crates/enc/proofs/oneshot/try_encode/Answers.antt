-- `enc::oneshot::try_encode` meets its contract. Assumes nothing.
use mathlib.Core.Path.{◌∙◌}
use Rattle.cobs.specs.OneShot.{plain}
use Rattle.cobs.proofs.Lengths.{length_ok}
use Rattle.enc.specs.declared.oneshot.EncodeError.TheVariants.{TooLong, DestBufTooSmall}
use Rattle.enc.proofs.Forms.{fits-says, small-says, refused, form_long, form_small, form_fits, plain_is}
use Rattle.enc.proofs.oneshot.try_encode.Goals as goal

pub returns-in_err-most : goal.returns-in_err-most
returns-in_err-most c =
    let both = form_long plain _ _ c.in_err-most.ensures in
    record { answer = refused _ TooLong c.from_residual.ensures.1 ∙ both.0; memory = both.1 }

pub room_for-requires : goal.room_for-requires
room_for-requires c = length_ok _ _ c.in_ok-most.ensures

pub returns-in_err-room_for : goal.returns-in_err-room_for
returns-in_err-room_for c =
    let both = form_small plain _ _ _ c.in_ok-most.ensures (rw plain_is (small-says _ _ _ c.in_err-room_for.ensures)) in
    record { answer = refused _ DestBufTooSmall c.from_residual-in_err-room_for.ensures.1 ∙ both.0; memory = both.1 }

pub returns : goal.returns
returns c =
    let h = fits-says _ _ c.in_ok-room_for.ensures in
    let both = form_fits plain _ _ _ c.in_ok-most.ensures (rw plain_is h) _
    (rw plain_is c.put.ensures.length) _ (rw plain_is c.put.ensures.memory) in
    record { answer = both.0; memory = both.1 }
