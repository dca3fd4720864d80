-- 01 "Particle records": a frame carries 1 to 15 records; what its writer answers, and what it leaves. Assumes nothing.
use Rattle.std.specs.Prelude.{ℕ, zero, suc, ◌/◌, ◌%◌, Bool, not, ◌||◌, List, [], ◌∷◌, ◌++◌, length, drop, Result, Ok, Err, ⊤, ◌==◌, if◌then◌else◌}
use Rattle.cobs.specs.Words.{◌exceeds◌}
use Rattle.cobs.specs.Code.{encode, over}
use Rattle.cobs.specs.Answers.{Told, done, dest_buf_too_small, bad_length, bad_record, is_done, if_done}
use Rattle.record.specs.Record.{is_record}
use Rattle.record.specs.declared.frame.FrameError.{FrameError}
use Rattle.record.specs.declared.frame.FrameError.TheVariants as refusal

-- BadLength: frame message of 0 bytes, over 240, or not a multiple of 16.
unfoldable pub is_bad_length : (size most : ℕ) (n : ℕ) → Bool
is_bad_length size most n = n == 0 || (n exceeds most) || not (n % size == 0)

-- The first bad one of n records, which m starts with, the first of them number k.
unfoldable pub records_told : (size n k : ℕ) (m : List ℕ) → Told
records_told size zero k m = done 0 0
records_told size (suc n) k m = if is_record 0 m then records_told size n (suc k) (drop size m) else bad_record k

-- The message's refusals, 7 before 8.
unfoldable pub message_told : (size most : ℕ) (m : List ℕ) → Told
message_told size most m =
    if is_bad_length size most (length m) then bad_length else records_told size (length m / size) 0 m

-- The records' encoding and one zero.
unfoldable pub framed : (m : List ℕ) → List ℕ
framed m = encode m ++ 0 ∷ []

-- A refusal, told.
abbrev pub told_refusal : FrameError → Told
told_refusal refusal.BadLength = bad_length
told_refusal (refusal.BadRecord k) = bad_record k
told_refusal refusal.DestBufTooSmall = dest_buf_too_small

-- What the frame writer answers, told.
abbrev pub told_frame : Result ℕ FrameError → Told
told_frame (Ok n) = done n 0
told_frame (Err e) = told_refusal e

-- Writing message m into a buffer of so many bytes: 7, 8, 4, never 5.
unfoldable pub frame_told : (m : List ℕ) (room : ℕ) → Told
frame_told m room =
    if not (is_done (message_told 16 240 m)) then message_told 16 240 m
    else if length (framed m) exceeds room then dest_buf_too_small
    else done (length (framed m)) 0

-- The buffer d afterwards: a refusal changes nothing.
unfoldable pub frame_dest : (m d : List ℕ) → List ℕ
frame_dest m d = if_done (frame_told m (length d)) (over (framed m) d) d

-- What the helper that checks the records found. No public promise cites it.
abbrev pub told_checked : Result ⊤ FrameError → Told
told_checked (Ok _) = done 0 0
told_checked (Err e) = told_refusal e
