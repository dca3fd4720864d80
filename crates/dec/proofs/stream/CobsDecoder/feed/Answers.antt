-- `dec::stream::CobsDecoder::feed` meets its contract. Assumes nothing.
use mathlib.Core.Path.{sym, ◌∙◌}
use Rattle.dec.proofs.Turns.{push-bad, push-one}
use Rattle.dec.proofs.stream.CobsDecoder.feed.Goals as goal

pub returns-then-bad : goal.returns-then-bad
returns-then-bad c =
    let both = push-bad _ _ _ (sym c.bad.ensures ∙ c.if-bad.true) in
    record { answer = both.0; memory = both.1 }

pub returns : goal.returns
returns c =
    let both = push-one _ _ _ (sym c.bad.ensures ∙ c.if-bad.false) _ c.take.ensures.answer _ c.take.ensures.memory in
    record { answer = both.0; memory = both.1 }
