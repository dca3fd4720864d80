-- `numbers::fields::head_of` meets its contract. Assumes nothing.
use mathlib.Core.Path.{◌∙◌}
use Rattle.numbers.proofs.Naming.{bit_is, head_is}
use Rattle.numbers.proofs.fields.head_of.Goals as goal

pub returns-clause-head : goal.returns-clause-head
returns-clause-head c = head_is c.args.wire _ _ _ _ _ _ (c.from.ensures ∙ bit_is c.args.wire.decoder.skip) c.state_numbers-state.ensures.numbers c.close_numbers-close.ensures.numbers
