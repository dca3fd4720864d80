-- `capi::stream::laksovuth_receive` meets its contract. Assumes nothing.
use mathlib.Core.Path.{sym, ◌∙◌}
use Rattle.capi.proofs.Named.{receive-none, receive-some}
use Rattle.capi.proofs.stream.laksovuth_receive.Goals as goal

pub returns-in_default : goal.returns-in_default
returns-in_default c =
    let a = c.args in
    let both = receive-none a.state.now a.buffer.now a.table.now a.piece.now (sym c.in_default.is ∙ c.read.ensures) in
    record { answer = both.0; taken = both.1.0; state = both.1.1.0; named = both.1.1.1.0; decoded = both.1.1.1.1.0; stored = both.1.1.1.1.1 }

pub returns : goal.returns
returns c =
    let a = c.args in
    let both = receive-some a.state.now a.buffer.now a.table.now a.piece.now c.in-Some.states (sym c.in-Some.is ∙ c.read.ensures) c.receive-receipt.result _ _ c.receive-receipt.ensures _ c.write.ensures.memory c.write.ensures.named _ c.put.ensures in
    record { answer = both.0; taken = both.1.0; state = both.1.1.0; named = both.1.1.1.0; decoded = both.1.1.1.1.0; stored = both.1.1.1.1.1 }
