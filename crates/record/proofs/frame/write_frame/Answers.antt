-- `record::frame::write_frame` meets its contract. Assumes nothing.
use Rattle.std.proofs.Common.{◌-◌, length, sym, arith, length-append, length-drop, length-take-le}
use Rattle.std.proofs.lemmas.Result.{err_from_is_err_and}
use Rattle.record.proofs.Framing.{some, writes_refused, writes_empty, place, writes_nothing, writes_frame}
use Rattle.record.proofs.frame.write_frame.Goals as goal

pub returns-in_err-check : goal.returns-in_err-check
returns-in_err-check c =
    let p = err_from_is_err_and c.from_residual.result c.from_residual.ensures.1 in
    let both = writes_refused c.args.message.now c.args.dest.now _ c.in_err-check.ensures in
    rw (p.1, p.2) record { answer = both.0; memory = both.1 }

pub returns-then-is_empty : goal.returns-then-is_empty
returns-then-is_empty c =
    let both = writes_empty c.args.message.now c.args.dest.now (sym c.in_ok-check.ensures) c.is_empty.ensures c.if-is_empty.true in
    record { answer = both.0; memory = both.1 }

pub returns-in_default : goal.returns-in_default
returns-in_default c =
    let e = c.encode in
    let both = writes_nothing c.args.message.now c.args.dest.now (sym c.in_ok-check.ensures) (some _ c.is_empty.ensures c.if-is_empty.false) e.result e.ensures.answer e.new.dest e.ensures.memory _ c.in_default.is in
    record { answer = both.0; memory = both.1 }

pub bounds-dest-n : goal.bounds-dest-n
bounds-dest-n c =
    let e = c.encode in
    let p = place c.args.message.now c.args.dest.now (sym c.in_ok-check.ensures) (some _ c.is_empty.ensures c.if-is_empty.false) e.result e.ensures.answer _ c.in-Ok.is in
    let l = e.auto.dest in
    simp (length-append, length-drop) (omega (arith, p, l, length-take-le (length c.args.dest.now - 1) c.args.dest.now (omega arith), some _ c.is_empty.ensures c.if-is_empty.false))

pub overflow_add-result : goal.overflow_add-result
overflow_add-result c =
    let e = c.encode in
    omega (arith, place c.args.message.now c.args.dest.now (sym c.in_ok-check.ensures) (some _ c.is_empty.ensures c.if-is_empty.false) e.result e.ensures.answer _ c.in-Ok.is)

pub returns : goal.returns
returns c =
    let e = c.encode in
    let both = writes_frame c.args.message.now c.args.dest.now (sym c.in_ok-check.ensures) (some _ c.is_empty.ensures c.if-is_empty.false) e.result e.ensures.answer e.new.dest e.ensures.memory _ c.in-Ok.is in
    record { answer = both.0; memory = both.1 }
