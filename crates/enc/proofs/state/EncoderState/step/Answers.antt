-- `enc::state::EncoderState::step` meets its contract. Assumes nothing.
use native.Mathlib.Omega.{arith}
use borrow.Author.Tests.{eq-eqb, ne_eqb}
use Rattle.enc.specs.State.{step}
use Rattle.enc.proofs.Steps.{sound}
use Rattle.enc.proofs.state.EncoderState.step.Goals as goal

pub overflow_add-result : goal.overflow_add-result
overflow_add-result c = let g = (sound _).holds c.requires in omega (arith, g.group.few, g.low)

pub returns-then-byte-eq0 : goal.returns-then-byte-eq0
unfolding step
returns-then-byte-eq0 c = simp (eq-eqb _ _ c.if-byte-eq0.true)

pub overflow_add-result-then-code : goal.overflow_add-result-then-code
overflow_add-result-then-code c = let g = (sound _).holds c.requires in omega (arith, g.group.few, g.low)

pub returns-then-code : goal.returns-then-code
unfolding step
returns-then-code c = simp (ne_eqb _ _ c.if-byte-eq0.false, eq-eqb _ _ c.if-code.true)

pub overflow_add-result-2 : goal.overflow_add-result-2
overflow_add-result-2 c = let g = (sound _).holds c.requires in omega (arith, g.group.few, g.low)

pub returns : goal.returns
unfolding step
returns c = simp (ne_eqb _ _ c.if-byte-eq0.false, ne_eqb _ _ c.if-code.false)
