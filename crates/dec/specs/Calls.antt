-- 01's number and values for each case of `decode`'s answer, and what a push's refusal becomes in it. What the call
-- answers and leaves is stated in cobs, by the reading of a body. Assumes nothing.
use Rattle.std.specs.Prelude.{Result, Ok, Err}
use Rattle.cobs.specs.Answers.{Told, done, empty_frame, invalid_frame, target_buf_too_small}
use Rattle.dec.specs.declared.stream.Frame.{Frame}
use Rattle.dec.specs.declared.stream.PushError.{PushError}
use Rattle.dec.specs.declared.stream.PushError.TheVariants as push
use Rattle.dec.specs.declared.decode.DecodeError.{DecodeError}
use Rattle.dec.specs.declared.decode.DecodeError.TheVariants.{EmptyFrame, InvalidFrame, TargetBufTooSmall}

-- What `decode` answers, told.
abbrev pub decoded_told : Result Frame DecodeError → Told
decoded_told (Ok frame) = done frame.size frame.parsed
decoded_told (Err EmptyFrame) = empty_frame
decoded_told (Err (InvalidFrame decoded)) = invalid_frame decoded 0
decoded_told (Err TargetBufTooSmall) = target_buf_too_small 0

-- A push's refusal as `decode` gives it, without the bytes consumed. BadState cannot come from a new decoder; of it nothing is decoded.
abbrev pub stopped : PushError → DecodeError
stopped (push.InvalidFrame decoded consumed) = InvalidFrame decoded
stopped (push.TargetBufTooSmall consumed) = TargetBufTooSmall
stopped push.BadState = InvalidFrame 0
