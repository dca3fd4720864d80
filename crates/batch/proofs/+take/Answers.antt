-- `batch::take` meets its contract: a record that is taken is stored before the rest is asked, and what it was stored over is put
-- back if the rest is refused. Assumes nothing.
use mathlib.Core.Path.{sym, ap, ◌∙◌}
use Prim.Native.Nat.{◌+◌, ◌≤◌}
use native.Mathlib.Omega.{arith}
use lib.ListN.{length}
use Rattle.std.proofs.lemmas.Result.{err_from_is_err_and}
use Rattle.batch.specs.Verdict.{after}
use Rattle.batch.specs.Helpers.{rest}
use Rattle.batch.proofs.Good.{Good, still-good, total-fits}
use Rattle.batch.proofs.Effects.{stored-length}
use Rattle.batch.proofs.Taking.{none, refuses, leaves-taken, leaves-refused, stored-good, refused-back, taken-on}
use Rattle.batch.proofs.+take.Goals as goal

-- no record is left
pub returns-then-at-frame : goal.returns-then-at-frame
returns-then-at-frame t c =
    let a = c.args in
    let s = leaves-taken (rest a.frame.now a.at a.receiver.now a.table.now) a.receiver.now a.table.now (none a.frame.now a.at a.receiver.now a.table.now c.if-at-frame.true) in
    record { answer = s.0; state = s.1.0; memory = s.1.1 }

-- the record at `at` is refused
pub returns-in_err-effect : goal.returns-in_err-effect
returns-in_err-effect t c =
    let a = c.args in
    let b = c.requires.at_in_bounds in
    let p = err_from_is_err_and c.from_residual.result c.from_residual.ensures.1 in
    let s = leaves-refused (rest a.frame.now a.at a.receiver.now a.table.now) a.receiver.now a.receiver.now a.table.now _
    (refuses a.frame.now a.at a.receiver.now a.table.now (omega arith) b.1 b.2 c.judge.result c.judge.ensures _ c.in_err-effect.was) in
    record { answer = rw (p.1, p.2) s.0; state = rw p.1 tt; memory = s.1.1 }

-- the record at `at` was stored
pub apply-requires : goal.apply-requires
apply-requires t c =
    let a = c.args in
    let b = c.requires.at_in_bounds in
    let good : Good (after c.in_ok-effect.effect a.receiver.now) (length a.table.now) =
    stored-good a.receiver.now a.table.now a.frame.now a.at (omega arith) b.1 b.2 c.judge.result c.judge.ensures c.in_ok-effect.effect c.in_ok-effect.was c.requires.table_value in
    omega (arith, total-fits (after c.in_ok-effect.effect a.receiver.now) (length a.table.now) good)

pub take-rest-requires : goal.take-rest-requires
take-rest-requires t c =
    let a = c.args in
    let b = c.requires.at_in_bounds in
    let good = stored-good a.receiver.now a.table.now a.frame.now a.at (omega arith) b.1 b.2 c.judge.result c.judge.ensures c.in_ok-effect.effect c.in_ok-effect.was c.requires.table_value in
    let long = ap length c.store.ensures ∙ stored-length c.in_ok-effect.effect a.table.now _ in
    let near : a.at + 16 ≤ length a.frame.now = omega arith in
    (omega (arith, c.decreases), (still-good _ _ _ _ c.apply.ensures long good, (near, omega arith, b.2)))

-- and the rest was refused
pub returns-then-is_err : goal.returns-then-is_err
returns-then-is_err t c =
    let a = c.args in
    let b = c.requires.at_in_bounds in
    let k = c.take-rest.ensures in
    let s = refused-back a.receiver.now a.table.now a.frame.now a.at (omega arith) b.1 b.2 c.judge.result c.judge.ensures c.in_ok-effect.effect c.in_ok-effect.was
    _ _ c.apply.ensures c.store.ensures _ c.take-rest.new.receiver _ (k.answer, (k.state, k.memory))
    (sym c.is_err.ensures.value ∙ c.if-is_err.true) _ _ c.kept-kept.ensures c.store-then-is_err.ensures in
    record { answer = s.0; state = s.1.0; memory = s.1.1 }

-- or taken
pub returns-else-is_err : goal.returns-else-is_err
returns-else-is_err t c =
    let a = c.args in
    let b = c.requires.at_in_bounds in
    let k = c.take-rest.ensures in
    let s = taken-on a.receiver.now a.table.now a.frame.now a.at (omega arith) b.1 b.2 c.judge.result c.judge.ensures c.in_ok-effect.effect c.in_ok-effect.was
    _ _ c.apply.ensures c.store.ensures _ c.take-rest.new.receiver _ (k.answer, (k.state, k.memory)) (sym c.is_err.ensures.value ∙ c.if-is_err.false) in
    record { answer = s.0; state = s.1.0; memory = s.1.1 }
