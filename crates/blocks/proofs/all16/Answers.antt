-- `blocks::all16` meets its contract. Assumes nothing.
use mathlib.Core.Path.{sym, ◌∙◌}
use lib.Dec.{eqb}
use Rattle.std.proofs.Common.{rules}
use Rattle.blocks.specs.Blocks.{is_all}
use Rattle.blocks.proofs.Blocks.{sixteen-none, sixteen-some}
use Rattle.blocks.proofs.all16.Goals as goal

pub returns-in_default : goal.returns-in_default
unfolding is_all
returns-in_default c = sixteen-none (λ b. eqb b c.args.v) c.args.s.now c.args.at (sym c.in_default.is ∙ c.read16.ensures)

pub returns : goal.returns
unfolding is_all
returns c =
    sixteen-some (λ b. eqb b c.args.v) c.args.s.now c.args.at c.in-Some.block (sym c.in-Some.is ∙ c.read16.ensures) _
    (c.all.ensures (λ b. eqb b c.args.v) (λ b answer e. search rules))
