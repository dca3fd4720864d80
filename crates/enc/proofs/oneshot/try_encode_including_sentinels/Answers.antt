-- `enc::oneshot::try_encode_including_sentinels` meets its contract. Assumes nothing.
use mathlib.Core.Path.{◌∙◌}
use native.Mathlib.Omega.{arith}
use Prim.Native.Nat.{◌<◌}
use lib.ListN.{length}
use Rattle.cobs.specs.OneShot.{zeros_around}
use Rattle.cobs.proofs.Lengths.{length_ok}
use Rattle.enc.specs.declared.oneshot.EncodeError.TheVariants.{TooLong, DestBufTooSmall}
use Rattle.enc.proofs.Forms.{fits-says, small-says, refused, form_long, form_small, form_fits, length-around, inner_is, around_is}
use Rattle.enc.proofs.oneshot.try_encode_including_sentinels.Goals as goal

pub returns-in_err-most : goal.returns-in_err-most
returns-in_err-most c =
    let both = form_long zeros_around _ _ c.in_err-most.ensures in
    record { answer = refused _ TooLong c.from_residual.ensures.1 ∙ both.0; memory = both.1 }

pub returns-in_err-room : goal.returns-in_err-room
returns-in_err-room c =
    let few : length c.args.dest.now < 2 = let h = rw c.in_err-room.ensures.ok_part at c.checked_sub.ensures in omega arith in
    let both = form_small zeros_around _ _ _ c.in_ok-most.ensures (omega (arith, length-around c.args.src.now)) in
    record { answer = refused _ DestBufTooSmall c.from_residual-in_err-room.ensures.1 ∙ both.0; memory = both.1 }

pub room_for-requires : goal.room_for-requires
room_for-requires c = length_ok _ _ c.in_ok-most.ensures

pub returns-in_err-room_for : goal.returns-in_err-room_for
returns-in_err-room_for c =
    let h = rw c.in_ok-room.ensures.ok_part at c.checked_sub.ensures in
    let both = form_small zeros_around _ _ _ c.in_ok-most.ensures
    (omega (arith, length-around c.args.src.now, small-says _ _ _ c.in_err-room_for.ensures)) in
    record { answer = refused _ DestBufTooSmall c.from_residual-in_err-room_for.ensures.1 ∙ both.0; memory = both.1 }

pub returns : goal.returns
returns c =
    let a = c.args in
    let h = rw c.in_ok-room.ensures.ok_part at c.checked_sub.ensures in
    let inner = inner_is a.src.now a.dest.now _ (omega arith) c.put-n.ensures.memory in
    let both = form_fits zeros_around _ _ _ c.in_ok-most.ensures
    (omega (arith, length-around a.src.now, fits-says _ _ c.in_ok-room_for.ensures)) _
    (omega (arith, length-around a.src.now, c.put-n.ensures.length)) _
    (rw (inner, c.put-n.ensures.length) (around_is a.src.now a.dest.now)) in
    record { answer = both.0; memory = both.1 }
