-- 01 "Encoding calls", streaming: the encoder and its buffer after each byte, and what each call answers. Assumes nothing.
use Rattle.std.specs.Prelude.{Bool, true, false, not, ◌||◌, ◌&&◌, List, [], ◌∷◌, ℕ, ◌+◌, ⊤, Result, Ok, Err, length, set, eqb, if◌then◌else◌}
use Rattle.cobs.specs.Words.{◌exceeds◌}
use Rattle.cobs.specs.Answers.{Told, done, dest_buf_too_small, too_long, bad_state, longest, is_done, if_done}
use Rattle.enc.specs.State.{fresh_state, step, no_code}
use Rattle.cobs.specs.declared.refusals.BadState.{BadState}
use Rattle.cobs.specs.declared.refusals.DestBufTooSmall.{DestBufTooSmall}
use Rattle.enc.specs.declared.state.PushResult.{PushResult}
use Rattle.enc.specs.declared.state.PushResult.TheVariants.{AddSingle, ModifyFromStartAndSkip, ModifyFromStartAndPushAndSkip}
use Rattle.enc.specs.declared.stream.Encoder.{Encoder}
use Rattle.enc.specs.declared.stream.PushError.{PushError}
use Rattle.enc.specs.declared.stream.PushError.TheVariants as error

-- ---- One byte: what EncoderState asks for is done to the buffer

-- What is asked for, done to the buffer d, where `end` is the end of what is written or held open.
abbrev pub obeyed : PushResult → (end : ℕ) (d : List ℕ) → List ℕ
obeyed (AddSingle b) end d = set d end b
obeyed (ModifyFromStartAndSkip place code) end d = set d place code
obeyed (ModifyFromStartAndPushAndSkip place code b) end d = set (set d end b) place code

-- A full group has just closed.
abbrev pub closes_full : PushResult → Bool
closes_full (AddSingle b) = false
closes_full (ModifyFromStartAndSkip place code) = false
closes_full (ModifyFromStartAndPushAndSkip place code b) = true

-- The encoder after the byte.
unfoldable pub moved : Encoder → (byte : ℕ) → Encoder
moved e byte =
    record { state = (step e.state byte).1; full = closes_full (step e.state byte).0; count = e.count + 1 }

-- The buffer after it. An open code byte is not written until its group closes.
unfoldable pub wrote : Encoder → (byte : ℕ) (d : List ℕ) → List ℕ
wrote e byte d = obeyed (step e.state byte).0 (e.state.place + e.state.code) d

-- ---- A piece, byte by byte

-- The encoder after it.
unfoldable pub move_all : Encoder → (piece : List ℕ) → Encoder
move_all e [] = e
move_all e (b ∷ piece) = move_all (moved e b) piece

-- The buffer after it.
unfoldable pub write_all : Encoder → (piece d : List ℕ) → List ℕ
write_all e [] d = d
write_all e (b ∷ piece) d = write_all (moved e b) piece (wrote e b d)

-- ---- The calls

-- The code's place plus the code, or the place alone while a just-closed full group ends the input.
abbrev pub finished_length : Encoder → ℕ
finished_length e = if e.full then e.state.place else e.state.place + e.state.code

-- BadState: code outside 1 to 254, finished length over the buffer's, count over 1,048,576, or a just-closed full group
-- whose code is not 1.
unfoldable pub is_bad : Encoder → (room : ℕ) → Bool
is_bad e room =
    no_code e.state.code || (finished_length e exceeds room) || (e.count exceeds longest)
    || (e.full && not (eqb e.state.code 1))

-- Before the first byte.
abbrev pub fresh : Encoder
fresh = record { state = fresh_state; full = false; count = 0 }

-- An encoder cannot start on a buffer of length 0.
unfoldable pub started : (room : ℕ) → Result Encoder DestBufTooSmall
started room = if eqb room 0 then Err record {} else Ok fresh

-- What `start` answers, told.
abbrev pub told_started : Result Encoder DestBufTooSmall → Told
told_started (Ok e) = done 0 0
told_started (Err r) = dest_buf_too_small

-- DestBufTooSmall on a buffer of length 0, else done.
unfoldable pub start_told : (room : ℕ) → Told
start_told room = if eqb room 0 then dest_buf_too_small else done 0 0

-- What `push` answers, told.
abbrev pub told : Result ⊤ PushError → Told
told (Ok u) = done 0 0
told (Err error.BadState) = bad_state
told (Err error.TooLong) = too_long
told (Err error.DestBufTooSmall) = dest_buf_too_small

-- A piece is accepted exactly if all accepted before and it, finished now, fit.
unfoldable pub push_told : Encoder → (piece : List ℕ) (room : ℕ) → Told
push_told e piece room =
    if is_bad e room then bad_state
    else if e.count + length piece exceeds longest then too_long
    else if finished_length (move_all e piece) exceeds room then dest_buf_too_small
    else done 0 0

-- A refusal changes neither the encoder nor the buffer.
unfoldable pub push_next : Encoder → (piece : List ℕ) (room : ℕ) → Encoder
push_next e piece room = if is_done (push_told e piece room) then move_all e piece else e

-- The buffer d afterwards.
unfoldable pub push_dest : Encoder → (piece d : List ℕ) → List ℕ
push_dest e piece d = if_done (push_told e piece (length d)) (write_all e piece d) d

-- What `finalize` answers, told.
abbrev pub told_finished : Result ℕ BadState → Told
told_finished (Ok n) = done n 0
told_finished (Err e) = bad_state

-- BadState, or the finished length.
unfoldable pub finish_told : Encoder → (room : ℕ) → Told
finish_told e room = if is_bad e room then bad_state else done (finished_length e) 0

-- The open code byte is written; after a just-closed full group there is none.
abbrev pub closed : Encoder → (d : List ℕ) → List ℕ
closed e d = if e.full then d else set d e.state.place e.state.code

-- The buffer d afterwards.
unfoldable pub finish_dest : Encoder → (d : List ℕ) → List ℕ
finish_dest e d = if_done (finish_told e (length d)) (closed e d) d
