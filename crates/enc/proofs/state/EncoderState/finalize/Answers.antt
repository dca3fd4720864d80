-- `enc::state::EncoderState::finalize` meets its contract. Assumes nothing.
use mathlib.Core.Path.{sym, ◌∙◌}
use Rattle.enc.specs.State.{state_finalize, state_finalize_told}
use Rattle.enc.proofs.state.EncoderState.finalize.Goals as goal

pub returns-then-is_bad : goal.returns-then-is_bad
unfolding state_finalize state_finalize_told
returns-then-is_bad c = let q = sym c.is_bad.ensures ∙ c.if-is_bad.true in record { state = simp q; answer = simp q }

pub returns : goal.returns
unfolding state_finalize state_finalize_told
returns c = let q = sym c.is_bad.ensures ∙ c.if-is_bad.false in record { state = simp q; answer = simp q }
