-- `place::place::decode_in_place_report` meets its contract: `Downward` has the turn. Assumes nothing.
use mathlib.Core.Path.{sym, ap, ◌∙◌}
use native.Mathlib.Omega.{arith}
use Rattle.std.proofs.lemmas.Result.{err_from_is_err_and}
use Rattle.place.specs.Walk.{first}
use Rattle.place.proofs.Groups.{masked_zero}
use Rattle.place.proofs.Walks.{is_first, is-short, is_past}
use Rattle.place.proofs.Downward.{walked_first, walked_none, walked_code, walked_bounds, walked_short, walked_copy, walked_last, walked_more}
use Rattle.place.proofs.place.decode_in_place_report.Goals as goal
use Rattle.place.proofs.place.decode_in_place_report.Goals.{then-code, else-code}

pub returns-in_err-walk : goal.returns-in_err-walk
returns-in_err-walk c =
    let p = err_from_is_err_and c.from_residual.result c.from_residual.ensures.1 in
    let q = walked_none c.args.buf.now c.in_err-walk.field-0.0 (ap first (sym (masked_zero c.args.buf.now)) ∙ sym c.first.ensures ∙ c.in_err-walk.was) in
    record { answer = rw (p.1, p.2) q.0; memory = q.1 }

pub loop-next-init : goal.loop-next-init
loop-next-init c = walked_first _ _ (is_first _ _ (ap first (sym (masked_zero c.args.buf.now)) ∙ sym c.first.ensures ∙ c.in_ok-walk.was))

pub bounds-buf-walk : goal.bounds-buf-walk
bounds-buf-walk c = omega (arith, walked_bounds _ _ _ c.loop-next.invariant)

pub past-requires : goal.past-requires
past-requires c =
    let i = c.loop-next.invariant in
    let b = walked_bounds _ _ _ i in
    record { code = walked_code _ _ _ i; place = (b.0, b.1) }

pub returns-in_err-next : goal.returns-in_err-next
returns-in_err-next c =
    let i = c.loop-next.invariant in
    let p = err_from_is_err_and c.from_residual-in_err-next.result c.from_residual-in_err-next.ensures.1 in
    let s = is-short _ _ _ (sym c.past.ensures ∙ c.in_err-next.was) in
    let q = walked_short _ _ _ i s.0 in
    record { answer = rw (p.1, p.2, s.1) q.0; memory = q.1 }

pub overflow_sub-next : goal.overflow_sub-next
overflow_sub-next c = (walked_copy _ _ _ c.loop-next.invariant _ (is_past _ _ _ (sym c.past.ensures ∙ c.in_ok-next.was))).0

pub copy_down-requires : goal.copy_down-requires
copy_down-requires c =
    let i = c.loop-next.invariant in
    omega (arith, walked_bounds _ _ _ i, walked_copy _ _ _ i _ (is_past _ _ _ (sym c.past.ensures ∙ c.in_ok-next.was)))

pub returns-then-next : goal.returns-then-next
returns-then-next c =
    let p = walked_last _ _ _ c.loop-next.invariant _ (is_past _ _ _ (sym c.past.ensures ∙ c.in_ok-next.was)) _ c.copy_down.ensures c.if-next.true in
    record { answer = p.0; memory = p.1 }

pub bounds-buf-next : goal.bounds-buf-next
bounds-buf-next c =
    omega (arith, walked_copy _ _ _ c.loop-next.invariant _ (is_past _ _ _ (sym c.past.ensures ∙ c.in_ok-next.was)), c.copy_down.auto.buf)

pub closed-walk-requires : goal.closed-walk-requires
closed-walk-requires c = (walked_copy _ _ _ c.loop-next.invariant _ (is_past _ _ _ (sym c.past.ensures ∙ c.in_ok-next.was))).2

pub loop-next-smaller : goal.loop-next-smaller
loop-next-smaller c =
    let i = c.loop-next.invariant in
    rw c.closed-walk.ensures (omega (arith, walked_copy _ _ _ i _ (is_past _ _ _ (sym c.past.ensures ∙ c.in_ok-next.was)), (is_past _ _ _ (sym c.past.ensures ∙ c.in_ok-next.was)).end, walked_bounds _ _ _ i))

pub loop-next-preserved : goal.loop-next-preserved
loop-next-preserved c =
    let turn = walked_more _ _ _ c.loop-next.invariant _ (is_past _ _ _ (sym c.past.ensures ∙ c.in_ok-next.was)) _ c.copy_down.ensures c.if-code.buf in
    rw c.closed-walk.ensures
    (elim c.if-code.branch [
      | then-code w ↦ turn (λ e. absurd (w.if-code.true e)) (λ n. w.buf-is) c.if-next.false
      | else-code w ↦ turn (λ e. w.buf-is) (λ n. absurd (n w.if-code.false)) c.if-next.false
    ])
