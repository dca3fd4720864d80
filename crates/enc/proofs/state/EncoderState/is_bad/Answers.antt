-- `enc::state::EncoderState::is_bad` meets its contract. Assumes nothing.
use mathlib.Core.Path.{sym, ◌∙◌}
use Rattle.enc.specs.State.{state_bad}
use Rattle.enc.proofs.state.EncoderState.is_bad.Goals as goal

pub returns-then-has_no_code : goal.returns-then-has_no_code
unfolding state_bad
returns-then-has_no_code c = simp (sym c.has_no_code.ensures ∙ c.if-has_no_code.true) c.if-has_no_code.true

pub returns-else-has_no_code : goal.returns-else-has_no_code
unfolding state_bad
returns-else-has_no_code c = simp (sym c.has_no_code.ensures ∙ c.if-has_no_code.false)
