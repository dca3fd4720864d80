-- 01 "Encoding calls" and "Decoding calls": what each one-shot call answers, and what it leaves in its buffer.
-- Assumes nothing.
use Rattle.std.specs.Prelude.{not, List, [], ◌∷◌, ◌++◌, ℕ, zero, suc, ◌+◌, length, drop, eqb, if◌then◌else◌}
use Rattle.cobs.specs.Words.{◌exceeds◌}
use Rattle.cobs.specs.Code.{encode, body, Reading, read, over, masked}
use Rattle.cobs.specs.Answers.{Told, done, empty_frame, invalid_frame, target_buf_too_small, dest_buf_too_small, too_long, longest, is_done, if_done}

-- ---- Encoding: plain, with a zero before and after, and with a chosen sentinel

-- How the encoding is written.
pub data Form : Type 0 where
  plain : Form
  zeros_around : Form
  chosen : (sentinel : ℕ) → Form

-- The finished encoding, sentinels included.
unfoldable pub finished : Form → List ℕ → List ℕ
finished plain m = encode m
finished zeros_around m = 0 ∷ (encode m ++ 0 ∷ [])
finished (chosen sentinel) m = masked sentinel (encode m)

-- Encoding message m into a buffer of so many bytes: TooLong, then DestBufTooSmall, else the length.
unfoldable pub encode_told : Form → (m : List ℕ) (room : ℕ) → Told
encode_told form m room =
    if length m exceeds longest then too_long
    else if length (finished form m) exceeds room then dest_buf_too_small
    else done (length (finished form m)) 0

-- The buffer d afterwards: bytes past the answered length stay, and a refusal changes nothing.
unfoldable pub encode_dest : Form → (m d : List ℕ) → List ℕ
encode_dest form m d = if_done (encode_told form m (length d)) (over (finished form m) d) d

-- ---- `decode`: skips leading zeros, stops after the first frame, and supplies a missing last zero

-- How many zeros lead.
abbrev pub leading : List ℕ → ℕ
leading [] = 0
leading (zero ∷ s) = suc (leading s)
leading (suc b ∷ s) = 0

-- 1 if a zero ends the body, 0 if the end does.
abbrev pub closing : List ℕ → ℕ
closing [] = 0
closing (zero ∷ s) = 1
closing (suc b ∷ s) = closing s

-- The source without its leading zeros.
abbrev pub skipped : List ℕ → List ℕ
skipped src = drop (leading src) src

-- Parsed size counts the zero if present.
unfoldable pub parsed : List ℕ → ℕ
parsed src = leading src + length (body (skipped src)) + closing (skipped src)

-- The source's first body, read.
unfoldable pub meant : List ℕ → Reading
meant src = read (body (skipped src))

-- Decoded bytes count single bytes: those of the whole groups, then those of a short last group.
unfoldable pub decoded : List ℕ → List ℕ
decoded src = (meant src).groups ++ (meant src).short

-- Decoding source src into a buffer of so many bytes. A decoded byte that has no room comes before the body's end.
unfoldable pub decode_told : (src : List ℕ) (room : ℕ) → Told
decode_told src room =
    if eqb (length src) 0 then empty_frame
    else if length (decoded src) exceeds room then target_buf_too_small 0
    else if (meant src).whole then done (length (decoded src)) (parsed src)
    else invalid_frame (length (decoded src)) 0

-- The buffer d afterwards holds the decoded bytes, those before a fault, the rest untouched.
unfoldable pub decode_dest : (src d : List ℕ) → List ℕ
decode_dest src d = over (decoded src) d

-- ---- In place: the body ends at the first zero or the buffer's end; only whole groups count

-- Parsed size leaves the zero out. An empty body is InvalidFrame 0.
unfoldable pub in_place_told : (buffer : List ℕ) → Told
in_place_told buffer =
    if eqb (length buffer) 0 then empty_frame
    else if (read (body buffer)).whole then done (length (read (body buffer)).groups) (length (body buffer))
    else invalid_frame (length (read (body buffer)).groups) 0

-- The buffer afterwards: the whole groups' bytes at its front, the rest untouched.
unfoldable pub in_place_dest : (buffer : List ℕ) → List ℕ
in_place_dest buffer = over (read (body buffer)).groups buffer

-- The calls that answer a frame's size alone.
abbrev pub size_alone : Told → Told
size_alone t = if is_done t then done t.first 0 else t

-- Into another buffer with a sentinel: only the source is read, by the in-place rule; refusal 2 goes before 3.
abbrev pub in_room : (room : ℕ) → Told → Told
in_room room t = if not (is_done t) then t else if t.first exceeds room then target_buf_too_small 0 else t

-- By the in-place rule of the source, XORed.
unfoldable pub with_sentinel_told : (sentinel : ℕ) (src : List ℕ) (room : ℕ) → Told
with_sentinel_told sentinel src room = in_room room (size_alone (in_place_told (masked sentinel src)))

-- A refusal leaves the buffer d untouched.
unfoldable pub with_sentinel_dest : (sentinel : ℕ) (src d : List ℕ) → List ℕ
with_sentinel_dest sentinel src d =
    if_done (with_sentinel_told sentinel src (length d)) (over (read (body (masked sentinel src))).groups d) d
