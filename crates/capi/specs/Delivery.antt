-- Demand 3 for C and Rust callers: the loop over `laksovuth_open` and `laksovuth_receive` on one lent list of numbers, by the
-- definitions that their promises cite and in the words of crates/wire/specs/Demand3.antt. `proofs/Delivery.antt` proves it of
-- every delivery. Assumes nothing.
use Rattle.std.specs.Prelude.{◌≡◌, List, [], ◌∷◌, ◌++◌, ℕ, length}
use Rattle.cobs.specs.Code.{Bytes}
use Rattle.batch.specs.State.{marked_in}
use Rattle.wire.specs.Again.{Received, Run, drive}
use Rattle.wire.specs.Receive.{Seen}
use Rattle.wire.specs.Batch.{Item, expected_all}
use Rattle.wire.specs.Demand3.{Delivery, Completes}
use Rattle.wire.specs.Edges.{complete_with, widest, fifteens, most, least}
use Rattle.numbers.specs.Numbers.{wire_in}
use Rattle.capi.specs.Stream.{open_state, receive_told, receive_consumed, receive_state, receive_buffer, receive_table, state_told, state_total}

-- What a caller lends to every call: the list of numbers, the bytes to decode into, and the table.
pub record Lent : Type 0 where
  pub numbers : List ℕ
  pub buffer : List ℕ
  pub table : List ℕ

-- `laksovuth_open`, once, on that batch number.
abbrev pub opens : (numbers : List ℕ) → Delivery → Lent
opens numbers d = record { numbers = open_state numbers d.batch.number (length d.table); buffer = d.buffer; table = d.table }

-- `laksovuth_receive`: what it leaves in all three, its answer, and how many bytes of the piece it took.
abbrev pub receives : Lent → (piece : List ℕ) → Received Lent
receives l piece = record {
  side = record {
    numbers = receive_state l.numbers l.buffer l.table piece;
    buffer = receive_buffer l.numbers l.buffer l.table piece;
    table = receive_table l.numbers l.buffer l.table piece;
  };
  answer = receive_told l.numbers l.buffer l.table piece;
  consumed = receive_consumed l.numbers l.buffer l.table piece;
}

-- "nobody else writes those bytes or either state": between calls only the table's bytes may change.
abbrev pub hand_over : Delivery → (k : ℕ) → Lent → Lent
hand_over d k l = record { numbers = l.numbers; buffer = l.buffer; table = d.handed k l.table }

-- What is seen between calls: what `laksovuth_stands` answers, with its total, and how many the numbers have marked.
abbrev pub shows : Lent → Seen
shows l = record {
  total = state_total l.numbers (length l.table);
  marked = marked_in (wire_in l.numbers).receiver;
  stands = state_told l.numbers (length l.table);
}

-- "Every call gets those same bytes, that same table and the states the call before it left; each decoded frame goes to the
-- receiver first, then the rest of its piece to the decoder."
abbrev pub run : (numbers : List ℕ) → Delivery → Run Lent Seen
run numbers d = drive (λ k l piece. receives (hand_over d k l) piece) shows 0 (opens numbers d) d.pieces

-- What C lends: a list of as many numbers as `laksovuth_state_length` says, whatever they are, and bytes to decode into.
pub record Lends (numbers : List ℕ) (d : Delivery) : Type 0 where
  pub long : length numbers ≡ 74
  pub buffer : Bytes d.buffer

-- "After each whole frame its total is the sum of the weights of the distinct particles that have arrived", and its answer is
-- the one that is due: one for each whole frame, in order, and no call refuses.
pub record Demand3 (numbers : List ℕ) (d : Delivery) : Type 0 where
  pub answers : (run numbers d).said ≡ expected_all d.batch [] d.frames
  pub completes : (arrived : List Item) → Completes d.batch arrived

-- At both ends of its range (crates/wire/specs/Edges.antt), on any list of as many numbers: nothing at all, and the most of everything.
pub record Ends (numbers : List ℕ) : Type 0 where
  pub least : (run numbers least).said ≡ complete_with 0 0 ∷ []
  pub most : (run numbers most).said ≡ expected_all widest [] (fifteens 273 0) ++ complete_with 4_096_000_000 4_096 ∷ []
