-- `batch::whole` meets its contract. Assumes nothing.
use mathlib.Core.Path.{refl, sym, ◌∙◌}
use Prim.Native.Nat.{zero-le}
use lib.ListN.{length}
use Rattle.record.proofs.Frames.{whole}
use Rattle.batch.proofs.Accepting.{bad-state, bad-length, from-rest}
use Rattle.batch.proofs.whole.Goals as goal

pub returns-then-is_bad : goal.returns-then-is_bad
returns-then-is_bad c =
    let a = c.args in
    let e = bad-state a.receiver.now a.table.now a.frame.now c.is_bad.result c.is_bad.ensures c.if-is_bad.true in
    record { answer = rw e refl; state = tt; memory = rw e refl }

pub returns-then-is_bad_length : goal.returns-then-is_bad_length
returns-then-is_bad_length c =
    let a = c.args in
    let e = bad-length a.receiver.now a.table.now a.frame.now c.is_bad.result c.is_bad.ensures c.if-is_bad.false c.is_bad_length.result c.is_bad_length.ensures c.if-is_bad_length.true in
    record { answer = rw e refl; state = tt; memory = rw e refl }

pub take-requires-clause-at_in_bounds : goal.take-requires-clause-at_in_bounds
take-requires-clause-at_in_bounds c =
    (zero-le, refl, (whole (length c.args.frame.now) (sym c.is_bad_length.ensures ∙ c.if-is_bad_length.false)).even)

pub returns : goal.returns
returns c =
    let a = c.args in
    let e = from-rest a.receiver.now a.table.now a.frame.now c.is_bad.result c.is_bad.ensures c.if-is_bad.false c.is_bad_length.result c.is_bad_length.ensures c.if-is_bad_length.false in
    record { answer = rw e c.take.ensures.answer; state = rw e c.take.ensures.state; memory = rw e c.take.ensures.memory }
