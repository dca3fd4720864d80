-- `capi::stream::laksovuth_open` meets its contract. Assumes nothing.
use native.Mathlib.Omega.{arith}
use lib.ListN.{length}
use Rattle.capi.proofs.Named.{open-refused, open_done}
use Rattle.capi.proofs.stream.laksovuth_open.Goals as goal

pub returns-then-state-ne-COUNT : goal.returns-then-state-ne-COUNT
returns-then-state-ne-COUNT c =
    let both = open-refused c.args.state.now c.args.batch (length c.args.table.now) (λ e. omega arith) in
    record { answer = both.0; memory = both.1.0; named = both.1.1 }

pub returns : goal.returns
returns c =
    let a = c.args in
    let both = open_done a.state.now a.batch (length a.table.now) (omega arith) _ c.before.before.before.before.«open».ensures _ c.write.ensures.memory c.write.ensures.named in
    record { answer = both.0; memory = both.1.0; named = both.1.1 }
