-- `dec::stream::CobsDecoder::take` meets its contract: a law for each way through it. Assumes nothing.
use Rattle.std.specs.Prelude.{Ok}
use mathlib.Core.Path.{ap, ◌∙◌}
use Rattle.dec.proofs.Bytes.{taken_skip, taken-nothing, taken-byte, taken-small, taken-frame, taken_invalid}
use Rattle.dec.proofs.stream.CobsDecoder.take.Goals as goal

pub returns-then-self : goal.returns-then-self
returns-then-self c =
    let both = taken_skip _ _ _ _ c.if-self.true _ c.skipped.ensures in
    record { answer = both.0; memory = both.1 }

pub returns-in_default : goal.returns-in_default
returns-in_default c =
    let s = c.step-state in
    let both = taken_invalid _ _ _ _ c.if-self.false s.result s.ensures.step c.requires c.in_default.is _ c.ended.ensures in
    record { answer = both.0; memory = both.1 }

pub returns-then-dest-place : goal.returns-then-dest-place
returns-then-dest-place c =
    let s = c.step-state in
    let both = taken-small _ _ _ _ c.if-self.false s.result s.ensures.step c.requires _ (c.in-Ok.is ∙ ap Ok c.in-DataContinue.is) c.if-dest-place.true _ c.skipping.ensures in
    record { answer = both.0; memory = both.1 }

pub returns-in-NoData : goal.returns-in-NoData
returns-in-NoData c =
    let s = c.step-state in
    let both = taken-nothing _ _ _ _ c.if-self.false s.result s.ensures.step _ c.in-Ok.is c.in-NoData.is _ c.going.ensures in
    record { answer = both.0; memory = both.1 }

pub returns-in-DataComplete : goal.returns-in-DataComplete
returns-in-DataComplete c =
    let s = c.step-state in
    let both = taken-frame _ _ _ _ c.if-self.false s.result s.ensures.step c.requires (c.in-Ok.is ∙ ap Ok c.in-DataComplete.is) _ c.ended-in-DataComplete.ensures in
    record { answer = both.0; memory = both.1 }

pub returns-else-dest-place : goal.returns-else-dest-place
returns-else-dest-place c =
    let s = c.step-state in
    let both = taken-byte _ _ _ _ c.if-self.false s.result s.ensures.step _ (c.in-Ok.is ∙ ap Ok c.in-DataContinue.is) c.if-dest-place.false _ c.going-in-DataContinue.ensures in
    record { answer = both.0; memory = both.1 }
