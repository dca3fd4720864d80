-- What the private helpers promise: a frame from some place on, and what is kept so that a store can be undone.
-- No public promise cites it. Assumes nothing.
use Rattle.std.specs.Prelude.{List, ⊤, Result, Ok, Err, ℕ, ◌-◌, ◌/◌, length, drop, replicate}
use Rattle.blocks.specs.Blocks.{copied}
use Rattle.batch.specs.State.{slot_at}
use Rattle.batch.specs.Frame.{Outcome, refused, taken, take_all}
use Rattle.batch.specs.declared.Receiver.{Receiver}
use Rattle.batch.specs.declared.Refusal.{Refusal}
use Rattle.batch.specs.declared.judge.Effect.{Effect}
use Rattle.batch.specs.declared.judge.Effect.TheVariants.{Repeat, Store, Close}

-- The bytes that stand where an effect stores its record.
unfoldable pub kept_for : Effect → (table : List ℕ) → List ℕ
kept_for Repeat table = replicate 16 0
kept_for (Store index weight) table = copied (replicate 16 0) 0 table (slot_at index)
kept_for (Close close) table = replicate 16 0

-- The outcome of the records from `at` on.
abbrev pub rest : (frame : List ℕ) (at : ℕ) → Receiver → (table : List ℕ) → Outcome
rest frame at r table = take_all ((length frame - at) / 16) (at / 16) r table (drop at frame)

-- What is handed on: that all were taken, or the refusal.
abbrev pub answer_by : Outcome → Result ⊤ Refusal
answer_by (refused refusal) = Err refusal
answer_by (taken r table) = Ok tt
