-- 01 "Particle records": a record's fields, their ranges and its bytes, and what writing and reading it answer. Assumes nothing.
use Rattle.std.specs.Prelude.{ℕ, suc, ◌+◌, ◌-◌, ◌*◌, ◌/◌, ◌%◌, Bool, ◌&&◌, ◌||◌, List, [], ◌∷◌, ◌++◌, length, replicate, ℤ, Result, Ok, Err, ⊤, pos, negsuc, ◌==◌, nat_le, slice_index, if◌then◌else◌}
use Rattle.cobs.specs.Answers.{Told, done, bad_record, stale, ahead, is_done}
use Rattle.record.specs.declared.Record.{Record}
use Rattle.record.specs.declared.Record.TheVariants.{Particle, Close}
use Rattle.record.specs.declared.Fields.{Fields}
use Rattle.record.specs.declared.BadRecord.{BadRecord}
use Rattle.record.specs.declared.Class.{Class}
use Rattle.record.specs.declared.Class.TheVariants.{Ours, Ahead, Stale}

-- ---- Numbers: little-endian, and two's complement of 16 bits

-- The number whose bytes stand at `at`. A byte past the end counts as 0.
abbrev pub word16 : List ℕ → (at : ℕ) → ℕ
word16 s at = slice_index s at + 256 * slice_index s (at + 1)

-- The same of four bytes.
abbrev pub word32 : List ℕ → (at : ℕ) → ℕ
word32 s at = word16 s at + 65_536 * word16 s (at + 2)

-- A number's bytes.
abbrev pub bytes16 : ℕ → List ℕ
bytes16 n = n % 256 ∷ n / 256 % 256 ∷ []

-- Four of them.
abbrev pub bytes32 : ℕ → List ℕ
bytes32 n = bytes16 (n % 65_536) ++ bytes16 (n / 65_536)

-- From -32,768 to 32,767: below zero, 65,536 is added. (`negsuc n` is the number -1 - n.)
abbrev pub bits : ℤ → ℕ
bits (pos n) = n
bits (negsuc n) = 65_536 - suc n

-- The number that 16 bits stand for.
abbrev pub signed : ℕ → ℤ
signed n = if nat_le 32_768 n then negsuc (65_536 - suc n) else pos n

-- ---- Fields and bytes. 0: batch. 2: index. 4, 6, 8: x, y, z. 10: kind. 11: board. 12: weight.

-- The fields of the record that s starts with.
unfoldable pub fields_of : (s : List ℕ) → Fields
fields_of s = record {
  batch = word16 s 0;
  index = word16 s 2;
  x = word16 s 4;
  y = word16 s 6;
  z = word16 s 8;
  kind = slice_index s 10;
  board = slice_index s 11;
  weight = word32 s 12;
}

-- The 16 bytes of a record.
unfoldable pub bytes_of : Fields → List ℕ
bytes_of f =
    bytes16 f.batch ++ bytes16 f.index ++ bytes16 f.x ++ bytes16 f.y ++ bytes16 f.z
    ++ f.kind ∷ f.board ∷ bytes32 f.weight

-- Kind 1 is a particle, kind 2 a close, whose index is its count and whose weight is its total.
unfoldable pub fields_for : (board : ℕ) → Record → Fields
fields_for board (Particle batch index x y z weight) =
    record { batch = batch; index = index; x = bits x; y = bits y; z = bits z; kind = 1; board = board; weight = weight }
fields_for board (Close batch count total) =
    record { batch = batch; index = count; x = 0; y = 0; z = 0; kind = 2; board = board; weight = total }

-- The record in some fields, by their kind.
unfoldable pub record_in : Fields → Record
record_in f =
    if f.kind == 1 then Particle f.batch f.index (signed f.x) (signed f.y) (signed f.z) f.weight
    else Close f.batch f.index f.weight

-- ---- Ranges

-- Particle: weight 0 to 1,000,000.
abbrev pub is_particle : Fields → Bool
is_particle f = f.kind == 1 && nat_le f.weight 1_000_000

-- Close: index is N, 0 to 4,096; weight is the total, any u32; x, y, z are 0.
abbrev pub is_close : Fields → Bool
is_close f = f.kind == 2 && (nat_le f.index 4_096 && (f.x == 0 && (f.y == 0 && f.z == 0)))

-- A particle or a close, of this board.
unfoldable pub is_valid : (board : ℕ) → Fields → Bool
is_valid board f = f.board == board && (is_particle f || is_close f)

-- ---- The writer and the reader

-- What the writer answers, told.
abbrev pub told_write : Result ⊤ BadRecord → Told
told_write (Ok _) = done 0 0
told_write (Err _) = bad_record 0

-- BadRecord: a field outside its range.
unfoldable pub write_told : (board : ℕ) → Record → Told
write_told board r = if is_valid board (fields_for board r) then done 0 0 else bad_record 0

-- The bytes, all 0 where the record is refused.
unfoldable pub written_bytes : (board : ℕ) → Record → List ℕ
written_bytes board r = if is_done (write_told board r) then bytes_of (fields_for board r) else replicate 16 0

-- A record stands at the front of s: 16 bytes, each field within its range.
unfoldable pub is_record : (board : ℕ) (s : List ℕ) → Bool
is_record board s = nat_le 16 (length s) && is_valid board (fields_of s)

-- The record that s starts with. Anything else is BadRecord.
unfoldable pub read_of : (board : ℕ) (s : List ℕ) → Result Record BadRecord
read_of board s = if is_record board s then Ok (record_in (fields_of s)) else Err record {}

-- A telling has no room for a record's fields.
abbrev pub told_read : Result Record BadRecord → Told
told_read (Ok _) = done 0 0
told_read (Err _) = bad_record 0

-- Done, or BadRecord.
unfoldable pub read_told : (board : ℕ) (s : List ℕ) → Told
read_told board s = if is_record board s then done 0 0 else bad_record 0

-- ---- Batch difference: theirs minus ours, modulo 65,536

-- 0 is ours, 1 to 32,767 is Ahead, 32,768 to 65,535 is Stale.
abbrev pub class_for : (difference : ℕ) → Class
class_for difference = if difference == 0 then Ours else if nat_le difference 32_767 then Ahead else Stale

-- By the two batch numbers.
unfoldable pub class_of : (theirs ours : ℕ) → Class
class_of theirs ours = class_for ((theirs + (65_536 - ours)) % 65_536)

-- Ours is done; the others are refusals 10 and 9.
abbrev pub told_class : Class → Told
told_class Ours = done 0 0
told_class Ahead = ahead 0
told_class Stale = stale 0
