-- 01 "Refusals": an answer as a number and two values, the same for every call, so that answers compare, print and cross
-- the C boundary alike. Assumes nothing.
use Rattle.std.specs.Prelude.{Bool, List, ℕ, eqb, if◌then◌else◌}

-- The number is 0 for done, 01's own for a refusal, and from 14 on for the other answers. The first value is what the
-- answer carries; the second says where: bytes parsed or consumed, or a record's number. A value that is not there is 0.
pub record Told : Type 0 where
  pub number : ℕ
  pub first : ℕ
  pub second : ℕ

-- An answer of this number and these values.
abbrev pub tell : (number first second : ℕ) → Told
tell n a b = record { number = n; first = a; second = b }

-- Done: a length, or a frame's size and its parsed size.
abbrev pub done : (size parsed : ℕ) → Told
done size parsed = tell 0 size parsed

-- ---- 01's refusals, in its order

-- A source of no bytes.
abbrev pub empty_frame : Told
empty_frame = tell 1 0 0

-- A short group, or no body; with the bytes decoded.
abbrev pub invalid_frame : (decoded consumed : ℕ) → Told
invalid_frame decoded consumed = tell 2 decoded consumed

-- A decoded byte without room.
abbrev pub target_buf_too_small : (consumed : ℕ) → Told
target_buf_too_small consumed = tell 3 0 consumed

-- An encoding without room.
abbrev pub dest_buf_too_small : Told
dest_buf_too_small = tell 4 0 0

-- More than `longest`.
abbrev pub too_long : Told
too_long = tell 5 0 0

-- The most bytes of a message, all pieces together; more is TooLong.
abbrev pub longest : ℕ
longest = 1_048_576

-- A state that 01 calls bad.
abbrev pub bad_state : Told
bad_state = tell 6 0 0

-- No whole number of records, or too many.
abbrev pub bad_length : Told
bad_length = tell 7 0 0

-- A field outside its range, in the record of this number; so below.
abbrev pub bad_record : (at : ℕ) → Told
bad_record at = tell 8 0 at

-- A record of a batch older than ours.
abbrev pub stale : (at : ℕ) → Told
stale at = tell 9 0 at

-- A record of a batch newer than ours.
abbrev pub ahead : (at : ℕ) → Told
ahead at = tell 10 0 at

-- A record for which there is no slot.
abbrev pub no_room : (at : ℕ) → Told
no_room at = tell 11 0 at

-- A particle at or above the close's count.
abbrev pub beyond_close : (at : ℕ) → Told
beyond_close at = tell 12 0 at

-- A close unlike the first, or at or below an index taken.
abbrev pub conflict : (at : ℕ) → Told
conflict at = tell 13 0 at

-- ---- the other answers: a piece used up inside a body, and how a batch stands

-- The piece is used up.
abbrev pub more : Told
more = tell 14 0 0

-- No close yet.
abbrev pub still_open : Told
still_open = tell 15 0 0

-- So many are missing.
abbrev pub missing : (count : ℕ) → Told
missing count = tell 16 count 0

-- All are there, and the totals are equal.
abbrev pub complete : Told
complete = tell 17 0 0

-- All are there, and the totals are not equal.
abbrev pub differs : Told
differs = tell 18 0 0

-- ---- what a call leaves

-- The call did what it was asked for.
abbrev pub is_done : Told → Bool
is_done t = eqb t.number 0

-- A refusal that changes no buffer: what a call leaves if it is done, and else the buffer as it was.
abbrev pub if_done : Told → (left buffer : List ℕ) → List ℕ
if_done t left buffer = if is_done t then left else buffer
