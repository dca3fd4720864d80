-- 01 "The batch receiver": its state, when that is bad, and how a batch stands. Assumes nothing.
use Rattle.std.specs.Prelude.{Bool, ◌||◌, List, Option, Some, None, Result, Ok, Err, ℕ, ◌-◌, ◌*◌, ◌/◌, min, eqb, take, drop, if◌then◌else◌}
use Rattle.cobs.specs.Words.{◌exceeds◌}
use Rattle.cobs.specs.Answers.{Told, bad_state, still_open, missing, complete, differs}
use Rattle.cobs.specs.declared.refusals.BadState.{BadState}
use Rattle.marks.specs.Marks.{no_marks, marked_below}
use Rattle.batch.specs.declared.Receiver.{Receiver}
use Rattle.batch.specs.declared.Close.{Close}
use Rattle.batch.specs.declared.Standing.{Standing}
use Rattle.batch.specs.declared.Standing.TheVariants.{Open, Missing, Complete, Differs}

-- ---- Slots of 16 bytes

-- Where the slot of an index stands in the table.
abbrev pub slot_at : (index : ℕ) → ℕ
slot_at index = index * 16

-- Its bytes.
abbrev pub slot : (table : List ℕ) (index : ℕ) → List ℕ
slot table index = take 16 (drop (slot_at index) table)

-- How many slots there are in n bytes.
abbrev pub room_for : (n : ℕ) → ℕ
room_for n = n / 16

-- ---- The state

-- Opening a batch on a table of n bytes clears marks, total and close. Slot count: table length / 16, at most 4,096.
unfoldable pub opened : (batch n : ℕ) → Receiver
opened batch n = record { marks = no_marks; total = 0; close = None; slots = min (room_for n) 4_096; batch = batch }

-- How many indices are marked.
abbrev pub marked_in : Receiver → ℕ
marked_in r = marked_below r.marks 4_096

-- A mark stands at n or above: more are marked than below n.
abbrev pub mark_from : (n : ℕ) → Receiver → Bool
mark_from n r = marked_in r exceeds marked_below r.marks n

-- The slot count, or a taken close's count.
abbrev pub limit_by : (slots : ℕ) → Option Close → ℕ
limit_by slots None = slots
limit_by slots (Some close) = close.count

-- Where the indices that may be taken end.
unfoldable pub limit : Receiver → ℕ
limit r = limit_by r.slots r.close

-- BadState, with a table of n bytes: table shorter than the slots, slots over 4,096, a mark at or above the slot count or a
-- taken close's count, a close count over the slots, total over 1,000,000 times the marked.
unfoldable pub is_bad : Receiver → (n : ℕ) → Bool
is_bad r n =
    (r.slots exceeds room_for n) || (r.slots exceeds 4_096) || mark_from (limit r) r || (limit r exceeds r.slots)
    || (r.total exceeds 1_000_000 * marked_in r)

-- ---- How a batch stands

-- How a batch stands, told.
abbrev pub told_stand : Standing → Told
told_stand Open = still_open
told_stand (Missing k) = missing k
told_stand Complete = complete
told_stand Differs = differs

-- What `stands` answers, told.
abbrev pub told_standing : Result Standing BadState → Told
told_standing (Ok standing) = told_stand standing
told_standing (Err refusal) = bad_state

-- Open (no close), Missing k (k = N minus marked, at least 1), Complete, Differs (all marked, totals unequal).
abbrev pub stand_by : (marked sum : ℕ) → Option Close → Told
stand_by marked sum None = still_open
stand_by marked sum (Some close) =
    if close.count exceeds marked then missing (close.count - marked) else if eqb sum close.total then complete else differs

-- By the marks, the total and the close.
unfoldable pub stand_told : Receiver → Told
stand_told r = stand_by (marked_in r) r.total r.close

-- What the call that tells how a batch stands answers, with a table of n bytes.
unfoldable pub stands_told : Receiver → (n : ℕ) → Told
stands_told r n = if is_bad r n then bad_state else stand_told r
