-- `numbers::read` meets its contract. Assumes nothing.
use Rattle.numbers.proofs.Naming.{read-long, read_named, read-other}
use Rattle.numbers.proofs.read.Goals as goal

pub returns-in_default : goal.returns-in_default
returns-in_default c = read-long c.args.numbers.now c.in_default.ensures.1

pub returns-then-starts_with : goal.returns-then-starts_with
returns-then-starts_with c =
    let all = c.in-Ok.ensures.1 in
    read_named c.args.numbers.now _ all.long all.same _ c.wire_in-wire.ensures _ c.head_of-head.ensures.head _ c.starts_with.ensures.value c.if-starts_with.true

pub returns-else-starts_with : goal.returns-else-starts_with
returns-else-starts_with c =
    let all = c.in-Ok.ensures.1 in
    read-other c.args.numbers.now _ all.long all.same _ c.wire_in-wire.ensures _ c.head_of-head.ensures.head _ c.starts_with.ensures.value c.if-starts_with.false
