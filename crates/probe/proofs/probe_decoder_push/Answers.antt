-- `probe::probe_decoder_push` meets its contract. Assumes nothing.
use Rattle.probe.proofs.Ways.{decode-bad, decode-took}
use Rattle.probe.proofs.probe_decoder_push.Goals as goal

pub returns-then-number-eq6 : goal.returns-then-number-eq6
returns-then-number-eq6 c =
    let a = c.args in
    let pushed = c.push-answer in
    let both = decode-bad a.state.now a.piece.now a.dest.now _ _ c.decoder_of-decoder.ensures pushed.result
    pushed.ensures.answer pushed.ensures.memory _ _ _ c.answered-number.ensures c.if-number-eq6.true in
    record { answer = both.0; next = both.1.0; memory = both.1.1 }

pub returns : goal.returns
returns c =
    let a = c.args in
    let pushed = c.push-answer in
    let both = decode-took a.state.now a.piece.now a.dest.now _ _
    c.decoder_of-decoder.ensures pushed.result
    pushed.ensures.answer pushed.ensures.memory _ _ _
    c.answered-number.ensures _
    c.if-number-eq6.false c.put_decoder.ensures in
    record { answer = both.0; next = both.1.0; memory = both.1.1 }
