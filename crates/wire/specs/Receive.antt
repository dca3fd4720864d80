-- The loop's call with the batch receiver behind it: push, then accept. Assumes nothing.
use Rattle.std.specs.Prelude.{List, ℕ, length}
use Rattle.cobs.specs.Answers.{Told}
use Rattle.batch.specs.State.{is_bad, marked_in, stands_told}
use Rattle.batch.specs.Frame.{accept_told, accept_next, accept_table}
use Rattle.batch.specs.declared.Receiver.{Receiver}
use Rattle.wire.specs.Loop.{Taker}

-- The receiver, and its table.
pub record End : Type 0 where
  pub receiver : Receiver
  pub table : List ℕ

-- What is seen of the receiver between calls: its total, how many it has marked, and how it says that the batch stands.
pub record Seen : Type 0 where
  pub total : ℕ
  pub marked : ℕ
  pub stands : Told

-- The receiver takes the frames.
abbrev pub accepting : Taker End Seen
accepting = record {
  is_bad = λ e. is_bad e.receiver (length e.table);
  after = λ e frame. record { receiver = accept_next e.receiver e.table frame; table = accept_table e.receiver e.table frame };
  says = λ e frame. accept_told e.receiver e.table frame;
  shows = λ e. record { total = e.receiver.total; marked = marked_in e.receiver; stands = stands_told e.receiver (length e.table) };
}
