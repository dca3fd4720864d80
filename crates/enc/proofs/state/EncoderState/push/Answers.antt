-- `enc::state::EncoderState::push` meets its contract. Assumes nothing.
use mathlib.Core.Path.{sym, ◌∙◌}
use Rattle.enc.specs.State.{state_push, state_push_told}
use Rattle.enc.proofs.Steps.{step-told}
use Rattle.enc.proofs.state.EncoderState.push.Goals as goal

pub returns-then-is_bad : goal.returns-then-is_bad
unfolding state_push state_push_told
returns-then-is_bad c = let q = sym c.is_bad.ensures ∙ c.if-is_bad.true in record { state = simp q; answer = simp q }

pub returns : goal.returns
unfolding state_push state_push_told
returns c =
    let q = sym c.is_bad.ensures ∙ c.if-is_bad.false in
    record { state = rw (q, c.step-asked.ensures); answer = step-told _ _ q _ c.step-asked.ensures }
