-- 01 "The batch receiver": what one record asks for, and what it does. Assumes nothing.
use Rattle.std.specs.Prelude.{◌&&◌, List, Option, Some, None, Result, Ok, Err, ℕ, ◌+◌, eqb, leb, if◌then◌else◌}
use Rattle.cobs.specs.Words.{◌exceeds◌}
use Rattle.blocks.specs.Blocks.{copied}
use Rattle.marks.specs.Marks.{marked, set_mark}
use Rattle.record.specs.Record.{read_of, class_of}
use Rattle.record.specs.declared.Record.{Record}
use Rattle.record.specs.declared.Record.TheVariants as kind
use Rattle.record.specs.declared.BadRecord as bad
use Rattle.record.specs.declared.Class.{Class}
use Rattle.record.specs.declared.Class.TheVariants as class
use Rattle.batch.specs.State.{slot_at, mark_from, limit}
use Rattle.batch.specs.declared.Receiver.{Receiver}
use Rattle.batch.specs.declared.Close as held
use Rattle.batch.specs.declared.Refusal.{Refusal}
use Rattle.batch.specs.declared.Refusal.TheVariants.{BadRecord, Stale, Ahead, NoRoom, BeyondClose, Conflict}
use Rattle.batch.specs.declared.judge.Effect.{Effect}
use Rattle.batch.specs.declared.judge.Effect.TheVariants.{Repeat, Store, Close}

-- ---- The verdict on record number k: taken with an effect, or refused
abbrev pub Verdict : Type 0
Verdict = Result Effect Refusal

-- 11 NoRoom, then 12 BeyondClose. A particle whose mark is set is a repeat and is dropped, whatever its other fields.
unfoldable pub on_particle : (k : ℕ) → Receiver → (index weight : ℕ) → Verdict
on_particle k r index weight =
    if leb r.slots index then Err (NoRoom k)
    else if leb (limit r) index then Err (BeyondClose k)
    else if marked r.marks index then Ok Repeat
    else Ok (Store index weight)

-- 13 Conflict: close unlike the first, or its count at or below an index already taken. One equal in count and total to the
-- first is a repeat.
abbrev pub by_close : (k : ℕ) → Receiver → Option held.Close → held.Close → Verdict
by_close k r None close = if mark_from close.count r then Err (Conflict k) else Ok (Close close)
by_close k r (Some first) close =
    if eqb first.count close.count && eqb first.total close.total then Ok Repeat else Err (Conflict k)

-- 11 NoRoom, then 13.
unfoldable pub on_close : (k : ℕ) → Receiver → held.Close → Verdict
on_close k r close = if close.count exceeds r.slots then Err (NoRoom k) else by_close k r r.close close

-- A record of our batch.
abbrev pub on_ours : (k : ℕ) → Receiver → Record → Verdict
on_ours k r (kind.Particle batch index x y z weight) = on_particle k r index weight
on_ours k r (kind.Close batch count total) = on_close k r (record { count = count; total = total })

-- A record's batch number.
abbrev pub batch_in : Record → ℕ
batch_in (kind.Particle batch index x y z weight) = batch
batch_in (kind.Close batch count total) = batch

-- 9 Stale or 10 Ahead.
abbrev pub on_class : (k : ℕ) → Class → (ours : Verdict) → Verdict
on_class k class.Ours ours = ours
on_class k class.Ahead ours = Err (Ahead k)
on_class k class.Stale ours = Err (Stale k)

-- 8 BadRecord.
unfoldable pub on_read : (k : ℕ) → Receiver → Result Record bad.BadRecord → Verdict
on_read k r (Err _) = Err (BadRecord k)
on_read k r (Ok item) = on_class k (class_of (batch_in item) r.batch) (on_ours k r item)

-- The record that s starts with, against a state and its table.
unfoldable pub verdict : (k : ℕ) → Receiver → (table s : List ℕ) → Verdict
verdict k r table s = on_read k r (read_of 0 s)

-- ---- The effect on the state, and on the table

-- A new particle's mark is set and its weight added; a close is taken.
unfoldable pub after : Effect → Receiver → Receiver
after Repeat r = r
after (Store index weight) r =
    record { marks = set_mark r.marks index; total = r.total + weight; close = r.close; slots = r.slots; batch = r.batch }
after (Close close) r = record { marks = r.marks; total = r.total; close = Some close; slots = r.slots; batch = r.batch }

-- A new particle's 16 bytes, which s starts with, go to its slot.
unfoldable pub stored : Effect → (table s : List ℕ) → List ℕ
stored Repeat table s = table
stored (Store index weight) table s = copied table (slot_at index) s 0
stored (Close close) table s = table
