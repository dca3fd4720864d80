-- `blocks::clear16` meets its contract. Assumes nothing.
use mathlib.Core.Path.{sym, ◌∙◌}
use mathlib.Core.Bool.{not}
use lib.Dec.{eqb}
use Rattle.std.proofs.Common.{rules}
use Rattle.blocks.specs.Blocks.{is_clear}
use Rattle.blocks.proofs.Blocks.{sixteen-none, sixteen-some}
use Rattle.blocks.proofs.clear16.Goals as goal

pub returns-in_default : goal.returns-in_default
unfolding is_clear
returns-in_default c = sixteen-none (λ b. not (eqb b 0)) c.args.s.now c.args.at (sym c.in_default.is ∙ c.read16.ensures)

pub returns : goal.returns
unfolding is_clear
returns c =
    sixteen-some (λ b. not (eqb b 0)) c.args.s.now c.args.at c.in-Some.block (sym c.in-Some.is ∙ c.read16.ensures) _
    (c.all.ensures (λ b. not (eqb b 0)) (λ b answer e. search rules))
