-- `numbers::fields::wire_in` meets its contract: field by field. Assumes nothing.
use Rattle.numbers.proofs.Naming.{wire-is}
use Rattle.numbers.proofs.fields.wire_in.Goals as goal

pub returns : goal.returns
returns c =
    wire-is c.args.numbers.now _ _ _ c.state_in.ensures c.marks_in.ensures c.close_in.ensures
