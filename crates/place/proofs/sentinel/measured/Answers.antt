-- `place::sentinel::measured` meets its contract: group by group, as in place. Assumes nothing.
use mathlib.Core.Path.{sym, ◌∙◌}
use native.Mathlib.Omega.{arith}
use Rattle.std.proofs.lemmas.Result.{err_from_is_err_and}
use Rattle.place.proofs.Walks.{is_first, is-short, is_past}
use Rattle.place.proofs.Measured.{masked-code, sized_first, sized_none, sized_code, sized_short, sized_bounds, sized_last, sized_more}
use Rattle.place.proofs.sentinel.measured.Goals as goal

pub returns-in_err-walk : goal.returns-in_err-walk
returns-in_err-walk c =
    let p = err_from_is_err_and c.from_residual.result c.from_residual.ensures.1 in
    rw (p.1, p.2) (sized_none _ c.in_err-walk.field-0.0 (sym c.first.ensures ∙ c.in_err-walk.was))

pub loop-walk-init : goal.loop-walk-init
loop-walk-init c = sized_first _ _ (is_first _ _ (sym c.first.ensures ∙ c.in_ok-walk.was))

pub bounds-src-walk : goal.bounds-src-walk
bounds-src-walk c = (masked-code _ _ _ c.loop-walk.invariant).0

pub past-requires : goal.past-requires
past-requires c =
    let i = c.loop-walk.invariant in
    let m = masked-code _ _ _ i in
    record { code = sized_code _ _ i _ m.3; place = (m.1, m.2) }

pub returns-in_err-walk-2 : goal.returns-in_err-walk-2
returns-in_err-walk-2 c =
    let i = c.loop-walk.invariant in
    let p = err_from_is_err_and c.from_residual-in_err-walk-2.result c.from_residual-in_err-walk-2.ensures.1 in
    let s = is-short _ _ _ (sym c.past.ensures ∙ c.in_err-walk-2.was) in
    rw (p.1, p.2, s.1) (sized_short _ _ i _ (masked-code _ _ _ i).3 s.0)

pub returns-then-walk : goal.returns-then-walk
returns-then-walk c =
    let i = c.loop-walk.invariant in
    sized_last _ _ i _ (masked-code _ _ _ i).3 _ (is_past _ _ _ (sym c.past.ensures ∙ c.in_ok-walk-2.was)) c.if-walk.true

pub closed-walk-requires : goal.closed-walk-requires
closed-walk-requires c =
    let i = c.loop-walk.invariant in
    (sized_bounds _ _ i _ (masked-code _ _ _ i).3 _ (is_past _ _ _ (sym c.past.ensures ∙ c.in_ok-walk-2.was))).0

pub loop-walk-smaller : goal.loop-walk-smaller
loop-walk-smaller c =
    let i = c.loop-walk.invariant in
    let m = masked-code _ _ _ i in
    rw c.closed-walk.ensures (omega (arith, m, sized_bounds _ _ i _ m.3 _ (is_past _ _ _ (sym c.past.ensures ∙ c.in_ok-walk-2.was))))

pub loop-walk-preserved : goal.loop-walk-preserved
loop-walk-preserved c =
    let i = c.loop-walk.invariant in
    rw c.closed-walk.ensures (sized_more _ _ i _ (masked-code _ _ _ i).3 _ (is_past _ _ _ (sym c.past.ensures ∙ c.in_ok-walk-2.was)) c.if-walk.false)
