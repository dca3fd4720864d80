-- 01 "Known bytes": every starred example, those of the code and the record's, proved of the definitions that the calls'
-- promises cite, as one statement over the list. Assumes nothing.
use Rattle.std.specs.Prelude.{◌≡◌, ℕ, List, [], ◌∷◌, ◌++◌, map, length, replicate, pos, negsuc, Result, Ok}
use Rattle.cobs.specs.Answers.{Told, done}
use Rattle.cobs.specs.OneShot.{plain, encode_told, encode_dest}
use Rattle.cobs.specs.Known as code
use Rattle.record.specs.Record.{write_told, written_bytes, read_of}
use Rattle.record.specs.declared.Record.{Record}
use Rattle.record.specs.declared.Record.TheVariants.{Particle}
use Rattle.record.specs.declared.BadRecord.{BadRecord}

-- An example: the call and its bytes, and what it gives.
pub data Example : Type 0 where
  of_code : code.Example → Example
  -- a record, the writer's answer and bytes, what reads back from them, and their encoding's length and bytes
  written : Record → (answer : Told) (bytes : List ℕ) (back : Result Record BadRecord) (encoded : Told) (encoding : List ℕ) → Example

-- The same call, with what the definitions give.
unfoldable pub given : Example → Example
given (of_code e) = of_code (code.given e)
given (written r _ bytes _ _ encoding) =
    written r (write_told 0 r) (written_bytes 0 r) (read_of 0 bytes) (encode_told plain bytes (length encoding)) (encode_dest plain bytes (replicate (length encoding) 0))

-- Batch 1, index 0, x -1, y 0, z 64, weight 1,000.
abbrev pub particle : Record
particle = Particle 1 0 (negsuc 0) (pos 0) (pos 64) 1_000

-- 01's list.
abbrev pub examples : List Example
examples =
    map of_code code.examples
    ++ written particle (done 0 0)
    (0x01 ∷ 0x00 ∷ 0x00 ∷ 0x00 ∷ 0xFF ∷ 0xFF ∷ 0x00 ∷ 0x00 ∷ 0x40 ∷ 0x00 ∷ 0x01 ∷ 0x00 ∷ 0xE8 ∷ 0x03 ∷ 0x00 ∷ 0x00 ∷ [])
    (Ok particle) (done 17 0)
    (0x02 ∷ 0x01 ∷ 0x01 ∷ 0x01 ∷ 0x03 ∷ 0xFF ∷ 0xFF ∷ 0x01 ∷ 0x02 ∷ 0x40 ∷ 0x02 ∷ 0x01 ∷ 0x03 ∷ 0xE8 ∷ 0x03 ∷ 0x01 ∷ 0x01 ∷ [])
    ∷ []

-- The definitions give what 01 says. `proofs/Known.antt` proves it.
abbrev pub Known : Type 0
Known = map given examples ≡ examples
