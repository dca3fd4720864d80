-- `blocks::take16` meets its contract. Assumes nothing.
use mathlib.Core.Path.{sym, ◌∙◌}
use Rattle.blocks.proofs.Blocks.{taken_some, taken_none}
use Rattle.blocks.proofs.take16.Goals as goal

pub returns-in-Some-clause-answer : goal.returns-in-Some-clause-answer
returns-in-Some-clause-answer c =
    let a = c.args in
    c.kind.ensures ∙ taken_some a.dest.now a.at a.src.now a.from c.in-Some.block (sym c.in-Some.is ∙ c.moved.ensures.answer)

pub returns-in-None-clause-answer : goal.returns-in-None-clause-answer
returns-in-None-clause-answer c =
    let a = c.args in
    taken_none a.dest.now a.at a.src.now a.from (sym c.in-None.is ∙ c.moved.ensures.answer)
