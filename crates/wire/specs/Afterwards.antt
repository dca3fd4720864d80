-- What demand 3 leaves when a delivery is over: what the slots hold, and what repeats change. `proofs/Afterwards.antt` proves it
-- of every delivery. Assumes nothing.
use Rattle.std.specs.Prelude.{◌≡◌, Bool, true, false, ◌&&◌, ◌||◌, List, [], ◌∷◌, ◌++◌, ℕ, eqb, if◌then◌else◌}
use Rattle.record.specs.Record.{written_bytes}
use Rattle.batch.specs.State.{slot}
use Rattle.batch.specs.declared.Receiver.{Receiver}
use Rattle.wire.specs.Batch.{Item, particle, close, record_of, has}
use Rattle.wire.specs.Demand3.{Delivery, run}

-- All that arrived.
abbrev pub items : (frames : List (List Item)) → List Item
items [] = []
items (frame ∷ frames) = frame ++ items frames

-- The receiver after the last call.
abbrev pub receiver_after : Delivery → Receiver
receiver_after d = (run d).side.state.receiver

-- And its table.
abbrev pub table_after : Delivery → List ℕ
table_after d = (run d).side.state.table

-- ---- The slots, where the caller leaves the table alone

-- What call k's caller hands over is what the call before left.
abbrev pub LeftAlone : Delivery → Type 0
LeftAlone d = (k : ℕ) (table : List ℕ) → d.handed k table ≡ table

-- Each particle that arrived stands in its slot, with its 16 bytes; every other slot is as it was at opening.
pub record Slots (d : Delivery) : Type 0 where
  pub arrived : (i : ℕ) → has i (items d.frames) ≡ true → slot (table_after d) i ≡ written_bytes 0 (record_of d.batch (particle i))
  pub others : (i : ℕ) → has i (items d.frames) ≡ false → slot (table_after d) i ≡ slot d.table i

-- ---- A list of frames without its repeats

-- The same particle, or both the close.
abbrev pub same_item : Item → Item → Bool
same_item (particle i) (particle j) = eqb i j
same_item (particle i) close = false
same_item close (particle j) = false
same_item close close = true

-- The same items in the same order.
abbrev pub same_frame : List Item → List Item → Bool
same_frame [] [] = true
same_frame [] (item ∷ frame) = false
same_frame (item ∷ frame) [] = false
same_frame (item ∷ frame) (other ∷ frame') = same_item item other && same_frame frame frame'

-- The frame was seen before.
abbrev pub is_among : (frame : List Item) (seen : List (List Item)) → Bool
is_among frame [] = false
is_among frame (other ∷ seen) = same_frame frame other || is_among frame seen

-- The frames that were not seen before, in order.
abbrev pub firsts : (seen frames : List (List Item)) → List (List Item)
firsts seen [] = []
firsts seen (frame ∷ frames) = if is_among frame seen then firsts seen frames else frame ∷ firsts (frame ∷ seen) frames

-- Of equal frames the first alone.
abbrev pub without_repeats : List (List Item) → List (List Item)
without_repeats frames = firsts [] frames
