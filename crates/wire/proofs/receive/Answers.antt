-- `wire::receive` meets its contract. Assumes nothing.
use Rattle.std.specs.Prelude.{Ok, Err}
use mathlib.Core.Path.{sym, ap, ◌∙◌}
use lib.Seq.{length-take-le}
use Rattle.wire.proofs.Calls.{call-bad, call-more, call_invalid, call-small, call-state, frame-room, call-frame}
use Rattle.wire.proofs.receive.Goals as goal

pub returns-then-is_err : goal.returns-then-is_err
returns-then-is_err c =
    let a = c.args in
    call-bad a.wire a.buffer.now a.table.now a.piece.now c.stands.result c.stands.ensures (sym c.is_err.ensures.value ∙ c.if-is_err.true)
    c.handed.result c.handed.ensures

pub slice_bounds-accept-end : goal.slice_bounds-accept-end
slice_bounds-accept-end c =
    let a = c.args in
    let s = c.stands in
    let p = c.push-pushed in
    let fine = sym c.is_err.ensures.value ∙ c.if-is_err.false in
    frame-room a.wire a.buffer.now a.table.now a.piece.now s.result s.ensures fine p.result _ p.ensures.answer p.ensures.memory
    _ (c.in-Ok-Some.is ∙ ap Ok (rw c.in-Ok-Some.is at c.in-Ok-Some.field-0-is))

pub slice_bounds-accept-end-in-Ok-Some : goal.slice_bounds-accept-end-in-Ok-Some
slice_bounds-accept-end-in-Ok-Some c =
    let a = c.args in
    let s = c.stands in
    let p = c.push-pushed in
    let fine = sym c.is_err.ensures.value ∙ c.if-is_err.false in
    sym (length-take-le _ _ (frame-room a.wire a.buffer.now a.table.now a.piece.now s.result s.ensures fine p.result _ p.ensures.answer p.ensures.memory
    _ (c.in-Ok-Some.is ∙ ap Ok (rw c.in-Ok-Some.is at c.in-Ok-Some.field-0-is))))

pub returns-in-Ok-None : goal.returns-in-Ok-None
returns-in-Ok-None c =
    let a = c.args in
    let s = c.stands in
    let p = c.push-pushed in
    let fine = sym c.is_err.ensures.value ∙ c.if-is_err.false in
    call-more a.wire a.buffer.now a.table.now a.piece.now s.result s.ensures fine p.result _ p.ensures.answer p.ensures.memory
    (c.in-Ok-None.is ∙ ap Ok (rw c.in-Ok-None.is at c.in-Ok-None.field-0-is)) c.handed-in-Ok-None.result c.handed-in-Ok-None.ensures

pub returns-in-Err-InvalidFrame : goal.returns-in-Err-InvalidFrame
returns-in-Err-InvalidFrame c =
    let a = c.args in
    let s = c.stands in
    let p = c.push-pushed in
    let fine = sym c.is_err.ensures.value ∙ c.if-is_err.false in
    call_invalid a.wire a.buffer.now a.table.now a.piece.now s.result s.ensures fine p.result _ p.ensures.answer p.ensures.memory
    _ _ (c.in-Err-InvalidFrame.is ∙ ap Err (rw c.in-Err-InvalidFrame.is at c.in-Err-InvalidFrame.field-0-is)) c.handed-in-Err-InvalidFrame.result c.handed-in-Err-InvalidFrame.ensures

pub returns-in-Err-TargetBufTooSmall : goal.returns-in-Err-TargetBufTooSmall
returns-in-Err-TargetBufTooSmall c =
    let a = c.args in
    let s = c.stands in
    let p = c.push-pushed in
    let fine = sym c.is_err.ensures.value ∙ c.if-is_err.false in
    call-small a.wire a.buffer.now a.table.now a.piece.now s.result s.ensures fine p.result _ p.ensures.answer p.ensures.memory
    _ (c.in-Err-TargetBufTooSmall.is ∙ ap Err (rw c.in-Err-TargetBufTooSmall.is at c.in-Err-TargetBufTooSmall.field-0-is)) c.handed-in-Err-TargetBufTooSmall.result c.handed-in-Err-TargetBufTooSmall.ensures

pub returns-in-Err-BadState : goal.returns-in-Err-BadState
returns-in-Err-BadState c =
    let a = c.args in
    let s = c.stands in
    let p = c.push-pushed in
    let fine = sym c.is_err.ensures.value ∙ c.if-is_err.false in
    call-state a.wire a.buffer.now a.table.now a.piece.now s.result s.ensures fine p.result _ p.ensures.answer p.ensures.memory
    (c.in-Err-BadState.is ∙ ap Err (rw c.in-Err-BadState.is at c.in-Err-BadState.field-0-is)) c.handed-in-Err-BadState.result c.handed-in-Err-BadState.ensures

pub returns-in-Ok-Some : goal.returns-in-Ok-Some
returns-in-Ok-Some c =
    let a = c.args in
    let s = c.stands in
    let p = c.push-pushed in
    let fine = sym c.is_err.ensures.value ∙ c.if-is_err.false in
    call-frame a.wire a.buffer.now a.table.now a.piece.now s.result s.ensures fine p.result _ p.ensures.answer p.ensures.memory
    _ (c.in-Ok-Some.is ∙ ap Ok (rw c.in-Ok-Some.is at c.in-Ok-Some.field-0-is)) _ _ _ c.accept-accepted.ensures.state (c.said.ensures ∙ c.accept-accepted.ensures.answer) c.accept-accepted.ensures.memory c.handed-in-Ok-Some.result c.handed-in-Ok-Some.ensures
