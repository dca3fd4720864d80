-- 01's number and values for each case of the answers of the calls here. What those calls answer and leave is stated in cobs,
-- by the reading of a body. Assumes nothing.
use Rattle.std.specs.Prelude.{ℕ, Result, Ok, Err}
use Rattle.cobs.specs.Answers.{Told, done, empty_frame, invalid_frame, target_buf_too_small}
use Rattle.dec.specs.declared.stream.Frame.{Frame}
use Rattle.dec.specs.declared.decode.DecodeError.{DecodeError}
use Rattle.dec.specs.declared.decode.DecodeError.TheVariants as decode
use Rattle.place.specs.declared.place.BodyError.{BodyError}
use Rattle.place.specs.declared.place.BodyError.TheVariants.{EmptyFrame, InvalidFrame}

-- A refusal, told.
abbrev pub refused : BodyError → Told
refused EmptyFrame = empty_frame
refused (InvalidFrame bytes) = invalid_frame bytes 0

-- What `decode_in_place_report` answers, told.
abbrev pub report_told : Result Frame BodyError → Told
report_told (Ok frame) = done frame.size frame.parsed
report_told (Err e) = refused e

-- The two in-place calls that answer a size alone.
abbrev pub place_told : Result ℕ BodyError → Told
place_told (Ok size) = done size 0
place_told (Err e) = refused e

-- The same refusal, of a call that can also want room.
abbrev pub of_body : BodyError → DecodeError
of_body EmptyFrame = decode.EmptyFrame
of_body (InvalidFrame bytes) = decode.InvalidFrame bytes

-- What `decode_with_sentinel` answers, told.
abbrev pub with_told : Result ℕ DecodeError → Told
with_told (Ok size) = done size 0
with_told (Err decode.EmptyFrame) = empty_frame
with_told (Err (decode.InvalidFrame bytes)) = invalid_frame bytes 0
with_told (Err decode.TargetBufTooSmall) = target_buf_too_small 0
