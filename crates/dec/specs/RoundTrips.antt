-- There and back through the streaming decoder, new, on exactly what an encoding call writes: answer, next decoder and destination.
-- `proofs/RoundTrips.antt` proves it of every message that has room. Assumes nothing.
use Rattle.std.specs.Prelude.{◌≡◌, List, [], ◌∷◌, ◌++◌, ℕ, length, replicate}
use Rattle.cobs.specs.Code.{over}
use Rattle.cobs.specs.Answers.{Told, done, more}
use Rattle.cobs.specs.OneShot.{plain, zeros_around, finished}
use Rattle.dec.specs.Stream.{new, push_outcome, push_dest}

-- A new decoder's push of the piece, into the destination m: the answer, and message s at the front of the destination.
pub record Gives (piece m : List ℕ) (answer : Told) (s : List ℕ) : Type 0 where
  pub told : (push_outcome new (length m) piece).answer ≡ answer
  pub memory : push_dest new piece m ≡ over s m

-- What a new decoder with the destination m makes of an encoding of message s.
pub record StreamTrips (s m : List ℕ) : Type 0 where
  -- plain, and nothing after it: all of it is decoded, and the zero is waited for
  pub begun : Gives (finished plain s) m more s
  -- plain, a zero, and anything after it
  pub closed : (t : List ℕ) → Gives (finished plain s ++ 0 ∷ t) m (done (length s) (length (finished plain s ++ 0 ∷ []))) s
  -- with a zero before and after: both are parsed
  pub around : Gives (finished zeros_around s) m (done (length s) (length (finished zeros_around s))) s
  -- and the decoder is new again
  pub again : (push_outcome new (length m) (finished zeros_around s)).next ≡ new

-- At both ends, the bytes written out: nothing at all into no room, and a full group into just its room.
pub record Ends : Type 0 where
  pub nothing : Gives (0x01 ∷ 0x00 ∷ []) [] (done 0 2) []
  pub full : Gives (0xFF ∷ (replicate 254 0x01 ++ 0x00 ∷ [])) (replicate 254 0x00) (done 254 256) (replicate 254 0x01)
  pub full_around : Gives (0x00 ∷ 0xFF ∷ (replicate 254 0x01 ++ 0x00 ∷ [])) (replicate 254 0x00) (done 254 257) (replicate 254 0x01)
