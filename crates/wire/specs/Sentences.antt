-- 01's sentences about a call of the wire, and what a caller who calls while bytes are left relies on. `proofs/Sentences.antt`
-- proves each. Assumes nothing.
use Rattle.std.specs.Prelude.{◌≡◌, ◌≢◌, false, List, [], ◌++◌, ℕ, ◌≤◌, length}
use Rattle.cobs.specs.Answers.{more}
use Rattle.dec.specs.Stream.{bad}
use Rattle.batch.specs.Sentences as batch
use Rattle.wire.specs.Loop.{Side, received}
use Rattle.wire.specs.Receive.{End, accepting}
use Rattle.wire.specs.Call.{start, calls}

-- Neither state is a BadState.
pub record NotBad (w : Side End) : Type 0 where
  pub decoder : bad w.decoder (length w.buffer) ≡ false
  pub receiver : batch.NotBad w.state.receiver (length w.state.table)

-- "BadState: write place beyond the destination, .."; "table shorter than the slots, ..". No call leads there.
pub record NeverBad : Type 0 where
  -- opening gives none, with its table and any buffer
  pub opens : (batch : ℕ) (buffer table : List ℕ) → NotBad (calls (start batch (length table)) buffer table)
  -- from states that are not bad no piece leads to one
  pub receives : (w : Side End) (piece : List ℕ) → NotBad w → NotBad (received accepting w piece).side
  -- from any states the buffer and the table stay as long as they are
  pub buffer : (w : Side End) (piece : List ℕ) → length (received accepting w piece).side.buffer ≡ length w.buffer
  pub table : (w : Side End) (piece : List ℕ) → length (received accepting w piece).side.state.table ≡ length w.state.table

-- "says how many bytes of the piece it consumed, for refusals too".
pub record Consumes (w : Side End) : Type 0 where
  -- from any states no more than the piece has
  pub within : (piece : List ℕ) → (received accepting w piece).consumed ≤ length piece
  -- from states that are not bad a byte or more of a piece that has one, so that calls while bytes are left come to an end; a
  -- BadState takes none
  pub some : NotBad w → (piece : List ℕ) → 1 ≤ length piece → 1 ≤ (received accepting w piece).consumed
  -- an empty piece changes nothing
  pub none : NotBad w → received accepting w [] ≡ record { side = w; answer = more; consumed = 0 }
  -- what stands after the bytes it took is not looked at: another receiver may be opened before the rest is handed over
  pub rest : NotBad w → (piece later : List ℕ) → (received accepting w piece).answer.number ≢ more.number
      → received accepting w (piece ++ later) ≡ received accepting w piece
