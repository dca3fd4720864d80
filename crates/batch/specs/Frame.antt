-- 01 "The batch receiver": a frame, record by record, and what `accept` answers and leaves. Assumes nothing.
use Rattle.std.specs.Prelude.{List, Result, Ok, Err, ℕ, zero, suc, ◌/◌, length, drop, if◌then◌else◌}
use Rattle.cobs.specs.Answers.{Told, bad_state, bad_length, bad_record, stale, ahead, no_room, beyond_close, conflict}
use Rattle.record.specs.Frame.{is_bad_length}
use Rattle.batch.specs.State.{is_bad, told_stand, stand_told}
use Rattle.batch.specs.Verdict.{Verdict, verdict, after, stored}
use Rattle.batch.specs.declared.Receiver.{Receiver}
use Rattle.batch.specs.declared.Refusal.{Refusal}
use Rattle.batch.specs.declared.Refusal.TheVariants.{BadState, BadLength, BadRecord, Stale, Ahead, NoRoom, BeyondClose, Conflict}
use Rattle.batch.specs.declared.Standing.{Standing}
use Rattle.batch.specs.declared.judge.Effect.{Effect}

-- A refusal, told.
abbrev pub told_refusal : Refusal → Told
told_refusal BadState = bad_state
told_refusal BadLength = bad_length
told_refusal (BadRecord k) = bad_record k
told_refusal (Stale k) = stale k
told_refusal (Ahead k) = ahead k
told_refusal (NoRoom k) = no_room k
told_refusal (BeyondClose k) = beyond_close k
told_refusal (Conflict k) = conflict k

-- What `accept` answers, told.
abbrev pub told : Result Standing Refusal → Told
told (Ok standing) = told_stand standing
told (Err refusal) = told_refusal refusal

-- ---- The records of a frame, each against what the earlier ones would have left

-- A refusal at any record refuses the whole frame; else the state and the table after all of them.
pub data Outcome : Type 0 where
  refused : Refusal → Outcome
  taken : Receiver → (table : List ℕ) → Outcome

-- `on` goes on with the effect of a record that is not refused.
abbrev pub on_verdict : Verdict → (on : Effect → Outcome) → Outcome
on_verdict (Err refusal) on = refused refusal
on_verdict (Ok effect) on = on effect

-- The n records that s starts with, the first of them number k.
unfoldable pub take_all : (n k : ℕ) → Receiver → (table s : List ℕ) → Outcome
take_all zero k r table s = taken r table
take_all (suc n) k r table s =
    on_verdict (verdict k r table s) (λ e. take_all n (suc k) (after e r) (stored e table s) (drop 16 s))

-- ---- `accept`

-- 6, then 7, then the records.
unfoldable pub outcome : Receiver → (table frame : List ℕ) → Outcome
outcome r table frame =
    if is_bad r (length table) then refused BadState
    else if is_bad_length 16 240 (length frame) then refused BadLength
    else take_all (length frame / 16) 0 r table frame

-- The refusal, or how the batch stands.
abbrev pub outcome_told : Outcome → Told
outcome_told (refused refusal) = told_refusal refusal
outcome_told (taken r table) = stand_told r

-- A refused frame changes neither the state nor the table.
abbrev pub next_after : Receiver → Outcome → Receiver
next_after r (refused refusal) = r
next_after r (taken next table) = next

-- The table after it.
abbrev pub table_after : (table : List ℕ) → Outcome → List ℕ
table_after table (refused refusal) = table
table_after table (taken next left) = left

-- What `accept` answers to a frame.
unfoldable pub accept_told : Receiver → (table frame : List ℕ) → Told
accept_told r table frame = outcome_told (outcome r table frame)

-- The state that it leaves.
unfoldable pub accept_next : Receiver → (table frame : List ℕ) → Receiver
accept_next r table frame = next_after r (outcome r table frame)

-- The table that it leaves.
unfoldable pub accept_table : Receiver → (table frame : List ℕ) → List ℕ
accept_table r table frame = table_after table (outcome r table frame)
