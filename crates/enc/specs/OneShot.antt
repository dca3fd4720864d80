-- The one-shot calls' answers, told. What is promised of them is `encode_told` and `encode_dest` of `cobs`. Assumes nothing.
use Rattle.std.specs.Prelude.{ℕ, Result, Ok, Err}
use Rattle.cobs.specs.Answers.{Told, done, too_long, dest_buf_too_small}
use Rattle.enc.specs.declared.oneshot.EncodeError.{EncodeError}
use Rattle.enc.specs.declared.oneshot.EncodeError.TheVariants.{TooLong, DestBufTooSmall}

-- Every one of them, whatever the form.
abbrev pub told : Result ℕ EncodeError → Told
told (Ok n) = done n 0
told (Err TooLong) = too_long
told (Err DestBufTooSmall) = dest_buf_too_small
