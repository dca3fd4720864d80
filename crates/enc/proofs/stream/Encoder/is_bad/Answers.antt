-- `enc::stream::Encoder::is_bad` meets its contract. Assumes nothing.
use mathlib.Core.Path.{sym, ◌∙◌}
use mathlib.Core.Bool.{true≢false}
use native.Mathlib.Omega.{arith}
use Rattle.enc.proofs.Deciding.{refuted}
use Rattle.enc.proofs.Steps.{in_group}
use Rattle.enc.proofs.Pieces.{good, place-finished, good-full, good-open}
use Rattle.enc.proofs.stream.Encoder.is_bad.Goals as goal
use Rattle.enc.proofs.stream.Encoder.is_bad.Goals.{then-has_no_code-via-then-has_no_code, then-has_no_code-via-else-has_no_code+then-room-place, then-has_no_code-via-else-has_no_code+else-room-place+then-self-gt-LONGEST}

pub returns-then-has_no_code : goal.returns-then-has_no_code
returns-then-has_no_code c =
    refuted (good _ _) (λ g. elim c.then-has_no_code.branch [
      | then-has_no_code-via-then-has_no_code w ↦ true≢false (sym w.if-has_no_code.true ∙ c.has_no_code.ensures ∙ (in_group _).none g.group)
      | then-has_no_code-via-else-has_no_code+then-room-place w ↦ omega (arith, g.fits, place-finished c.args.self)
      | then-has_no_code-via-else-has_no_code+else-room-place+then-self-gt-LONGEST w ↦ omega (arith, g.counted)
    ])

pub returns-then-self : goal.returns-then-self
returns-then-self c =
    good-full _ _ ((in_group _).holds (sym c.has_no_code.ensures ∙ c.if-has_no_code.false))
    c.if-room-place.false c.if-self-gt-LONGEST.false c.if-self.true

pub returns : goal.returns
returns c =
    good-open _ _ ((in_group _).holds (sym c.has_no_code.ensures ∙ c.if-has_no_code.false))
    c.if-room-place.false c.if-self-gt-LONGEST.false c.if-self.false
