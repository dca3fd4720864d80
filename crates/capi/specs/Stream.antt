-- The workstation's calls as C has them: `receive` and `stands` on the states that numbers name. Numbers that name none
-- are BadState, and then nothing changes. Assumes nothing.
use Rattle.std.specs.Prelude.{List, Option, Some, None, ℕ, eqb, length, if◌then◌else◌}
use Rattle.cobs.specs.Answers.{Told, done, bad_state}
use Rattle.batch.specs.State.{stands_told}
use Rattle.wire.specs.Again.{Received}
use Rattle.wire.specs.Loop.{Side, received}
use Rattle.wire.specs.Receive.{End, accepting}
use Rattle.wire.specs.Call.{start, calls, wire_of}
use Rattle.numbers.specs.Numbers.{numbers_of, wire_in, names, written_to, read_back}
use Rattle.wire.specs.declared.Wire.{Wire}

-- ---- open

-- As many numbers as a state has, or BadState.
unfoldable pub open_told : (ns : List ℕ) → Told
open_told ns = if eqb (length ns) 74 then done 0 0 else bad_state

-- The numbers of a receiving side opened on a batch, with a table of n bytes.
unfoldable pub open_state : (ns : List ℕ) (batch n : ℕ) → List ℕ
open_state ns batch n = written_to ns (start batch n)

-- What they name.
unfoldable pub open_found : (ns : List ℕ) (batch n : ℕ) → Option Wire
open_found ns batch n = read_back ns (start batch n)

-- ---- receive

-- The call on the states that the numbers name.
abbrev pub call : (ns buffer table piece : List ℕ) → Received (Side End)
call ns buffer table piece = received accepting (calls (wire_in ns) buffer table) piece

-- Its answer.
unfoldable pub receive_told : (ns buffer table piece : List ℕ) → Told
receive_told ns buffer table piece = if names ns then (call ns buffer table piece).answer else bad_state

-- How many bytes of the piece it took.
unfoldable pub receive_consumed : (ns buffer table piece : List ℕ) → ℕ
receive_consumed ns buffer table piece = if names ns then (call ns buffer table piece).consumed else 0

-- The numbers of the states that it left.
unfoldable pub receive_state : (ns buffer table piece : List ℕ) → List ℕ
receive_state ns buffer table piece = if names ns then numbers_of (wire_of (call ns buffer table piece).side) else ns

-- What the numbers name afterwards: the states that the call left. Numbers that named none still name none.
unfoldable pub receive_found : (ns buffer table piece : List ℕ) → Option Wire
receive_found ns buffer table piece = if names ns then Some (wire_of (call ns buffer table piece).side) else None

-- The bytes to decode into, as it left them.
unfoldable pub receive_buffer : (ns buffer table piece : List ℕ) → List ℕ
receive_buffer ns buffer table piece = if names ns then (call ns buffer table piece).side.buffer else buffer

-- The table, as it left it.
unfoldable pub receive_table : (ns buffer table piece : List ℕ) → List ℕ
receive_table ns buffer table piece = if names ns then (call ns buffer table piece).side.state.table else table

-- ---- stands, with a table of n bytes

-- What `stands` says of the receiver that the numbers name.
unfoldable pub state_told : (ns : List ℕ) (n : ℕ) → Told
state_told ns n = if names ns then stands_told (wire_in ns).receiver n else bad_state

-- The total so far; 0 with BadState.
unfoldable pub state_total : (ns : List ℕ) (n : ℕ) → ℕ
state_total ns n = if eqb (state_told ns n).number 6 then 0 else (wire_in ns).receiver.total
