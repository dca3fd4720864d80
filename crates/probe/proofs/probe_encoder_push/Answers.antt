-- `probe::probe_encoder_push` meets its contract. Assumes nothing.
use mathlib.Core.Path.{◌∙◌}
use Rattle.probe.proofs.Ways.{push-refused, push-accepted}
use Rattle.probe.proofs.probe_encoder_push.Goals as goal

pub returns-then-number-ne0 : goal.returns-then-number-ne0
returns-then-number-ne0 c =
    let a = c.args in
    let pushed = c.push-answer in
    let both = push-refused a.state.now a.piece.now a.dest.now _ _ c.encoder_of-encoder.ensures _
    (c.accepted-number.ensures ∙ pushed.ensures.answer) pushed.ensures.memory c.if-number-ne0.true in
    record { answer = both.0; next = both.1.0; memory = both.1.1 }

pub returns : goal.returns
returns c =
    let a = c.args in
    let pushed = c.push-answer in
    let both = push-accepted a.state.now a.piece.now a.dest.now _ _
    c.encoder_of-encoder.ensures _
    (c.accepted-number.ensures ∙ pushed.ensures.answer) pushed.ensures.memory _ _
    c.if-number-ne0.false pushed.ensures.next c.put_encoder.ensures in
    record { answer = both.0; next = both.1.0; memory = both.1.1 }
