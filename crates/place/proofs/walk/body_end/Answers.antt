-- `place::walk::body_end` meets its contract. Assumes nothing.
use mathlib.Core.Path.{◌∙◌}
use lib.Dec.{eqb}
use Rattle.std.proofs.Common.{rules, tests}
use Rattle.std.proofs.lemmas.Iterator.{YieldsList-from_slice}
use Rattle.std.proofs.lemmas.Iterator.Search.{position_from_yields_List}
use Rattle.place.proofs.Groups.{end-found}
use Rattle.place.proofs.walk.body_end.Goals as goal

pub returns : goal.returns
returns c =
    let found = position_from_yields_List (λ b. eqb b c.args.sentinel) _ _ c.position.result c.position.ensures.ran (YieldsList-from_slice c.args.buf.now cc) (λ x b q k. search (rules, tests)) in
    c.unwrap_or.ensures ∙ end-found c.args.sentinel c.args.buf.now c.position.result found
