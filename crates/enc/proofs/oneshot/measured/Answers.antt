-- `enc::oneshot::measured` meets its contract. Assumes nothing.
use native.Mathlib.Omega.{arith}
use Rattle.enc.proofs.Counted.{count-last, count_zero, count-full}
use Rattle.enc.proofs.oneshot.measured.Goals as goal

pub loop-start-init : goal.loop-start-init
loop-start-init c = (omega arith, omega arith, omega arith)

pub after_last_zero-next-requires : goal.after_last_zero-next-requires
after_last_zero-next-requires c = (omega arith, omega arith)

pub loop-start-preserved-then-next-start : goal.loop-start-preserved-then-next-start
loop-start-preserved-then-next-start c =
    let a = c.after_last_zero-next.ensures in
    let k = count-full c.args.src.now c.loop-start.start (omega arith) (λ k h m. a.clean k (omega arith) m) in
    (omega arith, omega arith, omega (arith, k, c.loop-start.invariant.2))

pub loop-start-smaller : goal.loop-start-smaller
loop-start-smaller c = omega (arith, c.after_last_zero-next.ensures.after, c.after_last_zero-next.ensures.before, c.if-next-start.false)

pub loop-start-preserved : goal.loop-start-preserved
loop-start-preserved c =
    let a = c.after_last_zero-next.ensures in
    let k =
    count_zero c.args.src.now c.loop-start.start c.after_last_zero-next.result
    (omega (arith, a.after, c.if-next-start.false)) a.before (omega (arith, a.before)) (a.stops (omega (arith, a.after, c.if-next-start.false))) in
    (omega (arith, a.before), omega (arith, a.after), omega (arith, k, c.loop-start.invariant.2, a.after))

pub returns : goal.returns
returns c =
    let v = c.loop-start.invariant in
    omega (arith, v.2, count-last c.args.src.now c.loop-start.start (omega arith) v.0)
