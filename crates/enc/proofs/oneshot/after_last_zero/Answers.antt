-- `enc::oneshot::after_last_zero` meets its contract. Assumes nothing.
use mathlib.Core.Path.{sym, ◌∙◌}
use native.Mathlib.Omega.{arith}
use Rattle.std.proofs.Common.{rules}
use Rattle.enc.proofs.Counted.{clean-sixteen, last-zero, no-zero}
use Rattle.enc.proofs.oneshot.after_last_zero.Goals as goal

pub loop-end-init : goal.loop-end-init
loop-end-init c = (c.requires.0, omega arith, λ k l m. absurd (omega arith))

pub loop-end-preserved : goal.loop-end-preserved
loop-end-preserved c =
    let v = c.loop-end.invariant in
    (omega arith, omega arith, clean-sixteen _ _ _ (omega arith) v.2 (sym c.clear16.ensures ∙ c.if-clear16.true))

pub returns-in-Some : goal.returns-in-Some
returns-in-Some c =
    let v = c.loop-end.invariant in
    last-zero c.args.src.now c.args.from c.loop-end.end c.args.to v.0 v.1 c.requires.1 v.2 c.in-Some.k (search rules) (search rules) (search rules)

pub returns-in-None : goal.returns-in-None
returns-in-None c =
    let v = c.loop-end.invariant in
    no-zero c.args.src.now c.args.from c.loop-end.end c.args.to v.0 v.1 c.requires.1 v.2 (search rules)
