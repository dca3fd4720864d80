-- Demand 3, to be ticked off against its words. `proofs/Demand3.antt` proves it of every delivery. Assumes nothing.
use Rattle.std.specs.Prelude.{◌≡◌, true, List, [], ◌++◌, ℕ, ◌*◌, ◌≤◌, ◌<◌, length}
use Rattle.cobs.specs.Answers.{complete}
use Rattle.cobs.specs.Code.{encode}
use Rattle.wire.specs.Again.{Run, joined}
use Rattle.wire.specs.Loop.{Side, drive, framed}
use Rattle.wire.specs.Receive.{End, Seen, accepting}
use Rattle.wire.specs.Call.{start, calls}
use Rattle.wire.specs.Batch.{Batch, count, total, Sendable, Item, message, messages, Frame, Frames, has, has_close, arrived_count, arrived_total, due, expected_all}

-- What a sender, a wire and a receiving side do.
pub record Delivery : Type 0 where
  -- "One sender frames a batch"
  pub batch : Batch
  -- "The wire may lose, repeat or reorder whole frames": any list of its frames arrives
  pub frames : List (List Item)
  -- the bytes that have come of one more
  pub begun : List ℕ
  -- "cut anywhere": all these bytes, as they are handed over
  pub pieces : List (List ℕ)
  -- "bytes to decode into"
  pub buffer : List ℕ
  -- the table at opening; and as call k's caller hands it over, given what the call before left of it
  pub table : List ℕ
  pub handed : (k : ℕ) → List ℕ → List ℕ

-- The bytes begun are the front of a frame of the batch.
pub record Begun (b : Batch) (s : List ℕ) : Type 0 where
  pub frame : List Item
  pub framing : Frame b frame
  pub later : List ℕ
  pub front : s ++ later ≡ encode (message b frame)

-- What the demand says of them.
pub record Premises (d : Delivery) : Type 0 where
  -- "a batch of N particle records (at most 4,096), numbered 0 to N-1, and a close record"
  pub sendable : Sendable d.batch
  -- "in frames that hold nothing else"
  pub framing : Frames d.batch d.frames
  pub begins : Begun d.batch d.begun
  -- "hands the rest over undamaged, cut anywhere"
  pub cut : joined d.pieces ≡ framed (messages d.batch d.frames) ++ d.begun
  -- "with at least 240 bytes to decode into"
  pub room : 240 ≤ length d.buffer
  -- "with a table of at least N slots"
  pub slots : count d.batch * 16 ≤ length d.table
  -- "that same table": its caller may write to its bytes, not change its length
  pub same : (k : ℕ) (t : List ℕ) → length (d.handed k t) ≡ length t

-- "The receiver is opened once only, on that batch number"; "its decoder starts fresh": what `Wire::open` promises.
abbrev pub started : Delivery → Side End
started d = calls (start d.batch.number (length d.table)) d.buffer d.table

-- "nobody else writes those bytes or either state": between calls only the table's bytes may change.
abbrev pub hand : Delivery → (k : ℕ) → End → End
hand d k e = record { receiver = e.receiver; table = d.handed k e.table }

-- "Every call gets those same bytes, that same table and the states the call before it left; each decoded frame goes to the
-- receiver first, then the rest of its piece to the decoder."
abbrev pub run : Delivery → Run (Side End) Seen
run d = drive accepting (hand d) 0 (started d) d.pieces

-- "It answers Complete exactly if the close and all N arrived, and then both ends hold equal count and total."
pub record Completes (b : Batch) (arrived : List Item) : Type 0 where
  pub only : due b arrived ≡ complete → (has_close arrived ≡ true) × ((i : ℕ) → i < count b → has i arrived ≡ true)
  pub then : has_close arrived ≡ true → ((i : ℕ) → i < count b → has i arrived ≡ true) → due b arrived ≡ complete
  pub counts : due b arrived ≡ complete → arrived_count b arrived ≡ count b
  pub totals : due b arrived ≡ complete → arrived_total b arrived ≡ total b

-- "After each whole frame its total is the sum of the weights of the distinct particles that have arrived", and its answer is
-- the one that is due: one for each whole frame, in order, and no call refuses.
pub record Demand3 (d : Delivery) : Type 0 where
  pub answers : (run d).said ≡ expected_all d.batch [] d.frames
  pub completes : (arrived : List Item) → Completes d.batch arrived
