-- `blocks::fill16` meets its contract. Assumes nothing.
use mathlib.Core.Path.{sym, ◌∙◌}
use Rattle.blocks.proofs.Blocks.{filled-memory, filled-dest}
use Rattle.blocks.proofs.fill16.Goals as goal

pub returns-then-stand : goal.returns-then-stand
returns-then-stand c =
    let a = c.args in
    filled-memory a.dest.now a.at a.v (sym c.stand.ensures ∙ c.if-stand.true) _ (c.fill.ensures.after (λ y e. e))

pub returns-else-stand : goal.returns-else-stand
returns-else-stand c =
    let a = c.args in
    filled-dest a.dest.now a.at a.v (sym c.stand.ensures ∙ c.if-stand.false)
