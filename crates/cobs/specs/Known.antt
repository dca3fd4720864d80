-- 01 "Known bytes": the starred examples of encoding and decoding, proved of the definitions that the calls' promises cite,
-- as one statement over the list. Assumes nothing.
use Rattle.std.specs.Prelude.{◌≡◌, List, [], ◌∷◌, ◌++◌, map, ℕ, length, replicate}
use Rattle.cobs.specs.Answers.{Told, done, invalid_frame}
use Rattle.cobs.specs.OneShot.{plain, encode_told, encode_dest, decode_told, decode_dest, in_place_told}

-- An example: the call and its bytes, and what it gives.
pub data Example : Type 0 where
  -- a message and its encoding, which is answered and written into just the room it needs
  encoding : (m : List ℕ) (answer : Told) (bytes : List ℕ) → Example
  -- a source and the answer for a buffer of one byte, which then holds the bytes
  decoding : (src : List ℕ) (answer : Told) (bytes : List ℕ) → Example
  in_place : (buffer : List ℕ) (answer : Told) → Example

-- With the length of its bytes for the answer.
abbrev encodes : (m bytes : List ℕ) → Example
encodes m bytes = encoding m (done (length bytes) 0) bytes

-- The same call, with what the definitions give.
unfoldable pub given : Example → Example
given (encoding m _ bytes) = encoding m (encode_told plain m (length bytes)) (encode_dest plain m (replicate (length bytes) 0))
given (decoding src _ _) = decoding src (decode_told src 1) (decode_dest src (0 ∷ []))
given (in_place buffer _) = in_place buffer (in_place_told buffer)

-- 01 so many times.
abbrev ones : ℕ → List ℕ
ones n = replicate n 0x01

-- 01's list.
abbrev pub examples : List Example
examples =
    encodes [] (0x01 ∷ [])
    ∷ encodes (0x00 ∷ []) (0x01 ∷ 0x01 ∷ [])
    ∷ encodes (0x11 ∷ []) (0x02 ∷ 0x11 ∷ [])
    ∷ encodes (0x11 ∷ 0x22 ∷ 0x00 ∷ 0x33 ∷ []) (0x03 ∷ 0x11 ∷ 0x22 ∷ 0x02 ∷ 0x33 ∷ [])
    ∷ encodes (0x11 ∷ 0x00 ∷ 0x00 ∷ 0x00 ∷ []) (0x02 ∷ 0x11 ∷ 0x01 ∷ 0x01 ∷ 0x01 ∷ [])
    ∷ encodes (ones 254) (0xFF ∷ ones 254)
    ∷ encodes (ones 255) (0xFF ∷ (ones 254 ++ 0x02 ∷ 0x01 ∷ []))
    ∷ encodes (ones 254 ++ 0x00 ∷ []) (0xFF ∷ (ones 254 ++ 0x01 ∷ 0x01 ∷ []))
    ∷ decoding (0x02 ∷ 0x11 ∷ []) (done 1 2) (0x11 ∷ [])
    ∷ decoding (0x02 ∷ 0x11 ∷ 0x00 ∷ []) (done 1 3) (0x11 ∷ [])
    ∷ decoding (0x00 ∷ []) (invalid_frame 0 0) (0x00 ∷ [])
    ∷ decoding (0x03 ∷ 0x11 ∷ []) (invalid_frame 1 0) (0x11 ∷ [])
    ∷ in_place (0x03 ∷ 0x11 ∷ []) (invalid_frame 0 0)
    ∷ []

-- The definitions give what 01 says. `proofs/Known.antt` proves it.
abbrev pub Known : Type 0
Known = map given examples ≡ examples
