-- `probe::probe_decoder_step` meets its contract. Assumes nothing.
use Rattle.probe.proofs.Ways.{step-told}
use Rattle.probe.proofs.probe_decoder_step.Goals as goal

pub returns : goal.returns
returns c =
    let a = c.args in
    let both = step-told a.state.now a.left.now a.byte _ _ _ _ _ _ c.step-after.result c.state_from-before.ensures (c.step-after.ensures.step, c.step-after.ensures.answer)
    c.gave.ensures c.tag.ensures c.to_come.ensures in
    record { answer = both.0; next = both.1.0; rest = both.1.1 }
