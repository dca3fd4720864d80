-- `receive`, and the call that starts a receiving side: the loop's call on the declared states. Assumes nothing.
use Rattle.std.specs.Prelude.{List, Option, Some, None, Result, Ok, Err, ℕ}
use Rattle.cobs.specs.Answers.{Told, more, invalid_frame, target_buf_too_small, bad_state, bad_length, bad_record, stale, ahead, no_room, beyond_close, conflict}
use Rattle.dec.specs.Stream.{new}
use Rattle.batch.specs.State.{opened, told_stand}
use Rattle.batch.specs.declared.Standing.{Standing}
use Rattle.batch.specs.declared.Refusal as batch
use Rattle.batch.specs.declared.Refusal.TheVariants as receiver
use Rattle.wire.specs.Again as again
use Rattle.wire.specs.Loop.{Side}
use Rattle.wire.specs.Receive.{End}
use Rattle.wire.specs.declared.Wire.{Wire}
use Rattle.wire.specs.declared.Receipt.{Receipt}
use Rattle.wire.specs.declared.Refusal.{Refusal}
use Rattle.wire.specs.declared.Refusal.TheVariants.{InvalidFrame, TargetBufTooSmall, BadState, BadLength, BadRecord, Stale, Ahead, NoRoom, BeyondClose, Conflict}

-- What the receiver refuses, in this call's words.
abbrev pub of_batch : batch.Refusal → Refusal
of_batch receiver.BadState = BadState
of_batch receiver.BadLength = BadLength
of_batch (receiver.BadRecord k) = BadRecord k
of_batch (receiver.Stale k) = Stale k
of_batch (receiver.Ahead k) = Ahead k
of_batch (receiver.NoRoom k) = NoRoom k
of_batch (receiver.BeyondClose k) = BeyondClose k
of_batch (receiver.Conflict k) = Conflict k

-- Each refusal as document 01 numbers it.
abbrev pub told_refusal : Refusal → Told
told_refusal (InvalidFrame decoded) = invalid_frame decoded 0
told_refusal TargetBufTooSmall = target_buf_too_small 0
told_refusal BadState = bad_state
told_refusal BadLength = bad_length
told_refusal (BadRecord k) = bad_record k
told_refusal (Stale k) = stale k
told_refusal (Ahead k) = ahead k
told_refusal (NoRoom k) = no_room k
told_refusal (BeyondClose k) = beyond_close k
told_refusal (Conflict k) = conflict k

-- Each answer: no frame yet, how the batch stands after one, or a refusal.
abbrev pub told_received : Result (Option Standing) Refusal → Told
told_received (Ok None) = more
told_received (Ok (Some standing)) = told_stand standing
told_received (Err refusal) = told_refusal refusal

-- A fresh decoder, and a receiver opened on a batch with a table of n bytes.
abbrev pub start : (batch n : ℕ) → Wire
start batch n = record { decoder = new; receiver = opened batch n }

-- What a call gets.
abbrev pub calls : Wire → (buffer table : List ℕ) → Side End
calls w buffer table =
    record { decoder = w.decoder; buffer = buffer; state = record { receiver = w.receiver; table = table } }

-- The states of what is left.
abbrev pub wire_of : Side End → Wire
wire_of s = record { decoder = s.decoder; receiver = s.state.receiver }

-- What it leaves and answers.
abbrev pub leaves : Receipt → (buffer table : List ℕ) → again.Received (Side End)
leaves r buffer table =
    record { side = calls r.next buffer table; answer = told_received r.answer; consumed = r.consumed }
