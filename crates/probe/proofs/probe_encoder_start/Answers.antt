-- `probe::probe_encoder_start` meets its contract. Assumes nothing.
use Rattle.probe.proofs.Ways.{start_nowhere, start-refused, start_ready}
use Rattle.probe.proofs.probe_encoder_start.Goals as goal

pub returns-then-state-ne4 : goal.returns-then-state-ne4
returns-then-state-ne4 c =
    let both = start_nowhere _ _ c.if-state-ne4.true in
    record { answer = both.0; next = both.1 }

pub returns-in_default : goal.returns-in_default
returns-in_default c =
    let both = start-refused _ _ _ c.if-state-ne4.false c.in_default.ensures.state in
    record { answer = both.0; next = both.1 }

pub returns : goal.returns
returns c =
    let both = start_ready _ _ _ _ c.if-state-ne4.false c.in-Ok.ensures.state c.put_encoder.ensures in
    record { answer = both.0; next = both.1 }
