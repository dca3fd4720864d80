-- There and back: each decoding call on exactly what an encoding call writes, its answer and its buffer afterwards.
-- `proofs/RoundTrips.antt` proves it of every message. Assumes nothing.
use Rattle.std.specs.Prelude.{◌≡◌, true, List, [], ◌∷◌, ℕ, ◌≤◌, length, take, replicate}
use Rattle.cobs.specs.Code.{over, masked}
use Rattle.cobs.specs.Answers.{Told, done, is_done}
use Rattle.cobs.specs.OneShot.{Form, plain, zeros_around, chosen, finished, encode_told, encode_dest, decode_told, decode_dest, in_place_told, in_place_dest, size_alone, with_sentinel_told, with_sentinel_dest}

-- Message m comes back: the answer is its length and the bytes parsed, and the buffer, d before, has it at its front.
pub record Back (m d : List ℕ) (parsed : ℕ) (answer : Told) (after : List ℕ) : Type 0 where
  pub told : answer ≡ done (length m) parsed
  pub memory : after ≡ over m d

-- What each encoding call writes of message m, and what each decoding call makes of it.
pub record RoundTrips (m : List ℕ) : Type 0 where
  -- every encoding call: the bytes it answers the length of, at its buffer's front, are the finished encoding
  pub written : (form : Form) (d : List ℕ) → is_done (encode_told form m (length d)) ≡ true
      → take (encode_told form m (length d)).first (encode_dest form m d) ≡ finished form m
  -- `decode`, ended by the source's end: every byte is parsed
  pub decode : (d : List ℕ) → length m ≤ length d
      → Back m d (length (finished plain m)) (decode_told (finished plain m) (length d)) (decode_dest (finished plain m) d)
  -- `decode`, with a zero before and after: both are parsed
  pub decode_zeros : (d : List ℕ) → length m ≤ length d
      → Back m d (length (finished zeros_around m)) (decode_told (finished zeros_around m) (length d)) (decode_dest (finished zeros_around m) d)
  -- `decode_in_place_report`: past the message the buffer has the encoding's own bytes
  pub report : Back m (finished plain m) (length (finished plain m)) (in_place_told (finished plain m)) (in_place_dest (finished plain m))
  -- `decode_in_place` answers the size alone
  pub in_place : Back m (finished plain m) 0 (size_alone (in_place_told (finished plain m))) (in_place_dest (finished plain m))
  -- `decode_in_place_with_sentinel`: the whole buffer is XORed first
  pub in_place_sentinel : (s : ℕ)
      → Back m (finished plain m) 0 (size_alone (in_place_told (masked s (finished (chosen s) m)))) (in_place_dest (masked s (finished (chosen s) m)))
  -- `decode_with_sentinel`
  pub with_sentinel : (s : ℕ) (d : List ℕ) → length m ≤ length d
      → Back m d 0 (with_sentinel_told s (finished (chosen s) m) (length d)) (with_sentinel_dest s (finished (chosen s) m) d)

-- At both ends, the bytes written out: nothing at all into no room, and a full group into just its room.
pub record Ends : Type 0 where
  pub nothing : Back [] [] 1 (decode_told (0x01 ∷ []) 0) (decode_dest (0x01 ∷ []) [])
  pub full : Back (replicate 254 0x01) (replicate 254 0x00) 255
      (decode_told (0xFF ∷ replicate 254 0x01) 254) (decode_dest (0xFF ∷ replicate 254 0x01) (replicate 254 0x00))
  -- sentinel FF
  pub nothing_sentinel : Back [] [] 0 (with_sentinel_told 0xFF (0xFE ∷ []) 0) (with_sentinel_dest 0xFF (0xFE ∷ []) [])
  pub full_sentinel : Back (replicate 254 0x01) (replicate 254 0x00) 0
      (with_sentinel_told 0xFF (0x00 ∷ replicate 254 0xFE) 254) (with_sentinel_dest 0xFF (0x00 ∷ replicate 254 0xFE) (replicate 254 0x00))
