-- What the two length functions answer. Assumes nothing.
use Rattle.std.specs.Prelude.{ℕ, Result, Ok, Err, if◌then◌else◌}
use Rattle.cobs.specs.Words.{◌exceeds◌}
use Rattle.cobs.specs.Code.{overhead, max_length}
use Rattle.cobs.specs.Answers.{Told, done, too_long, longest}
use Rattle.cobs.specs.declared.refusals.TooLong.{TooLong}

-- What both calls answer, told.
abbrev pub told : Result ℕ TooLong → Told
told (Ok n) = done n 0
told (Err e) = too_long

-- TooLong: a length asked about, over 1,048,576 bytes.
unfoldable pub overhead_told : ℕ → Told
overhead_told n = if n exceeds longest then too_long else done (overhead n) 0

-- The same of the whole length.
unfoldable pub length_told : ℕ → Told
length_told n = if n exceeds longest then too_long else done (max_length n) 0
