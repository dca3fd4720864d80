-- `enc::stream::Encoder::judged` meets its contract. Assumes nothing.
use mathlib.Core.Path.{sym, ◌∙◌}
use native.Mathlib.Omega.{arith}
use Rattle.enc.proofs.Steps.{in_group}
use Rattle.enc.proofs.Pieces.{passed, place-finished, finished-below}
use Rattle.enc.proofs.Calls.{push-bad, push-long, push-small, push-done}
use Rattle.enc.proofs.stream.Encoder.judged.Goals as goal

pub returns-then-is_bad : goal.returns-then-is_bad
returns-then-is_bad c = push-bad _ _ _ (sym c.is_bad.ensures ∙ c.if-is_bad.true)

pub overflow_sub-self : goal.overflow_sub-self
overflow_sub-self c = (passed _ _ c.is_bad.ensures c.if-is_bad.false).counted

pub returns-then-self-piece : goal.returns-then-self-piece
returns-then-self-piece c =
    let g = passed _ _ c.is_bad.ensures c.if-is_bad.false in
    push-long _ _ _ g (omega (arith, g.counted))

pub overflow_add-self : goal.overflow_add-self
overflow_add-self c =
    let g = passed _ _ c.is_bad.ensures c.if-is_bad.false in
    omega (arith, g.fits, g.counted, place-finished c.args.self)

pub overflow_add-self-2 : goal.overflow_add-self-2
overflow_add-self-2 c =
    let g = passed _ _ c.is_bad.ensures c.if-is_bad.false in
    omega (arith, g.fits, g.counted, place-finished c.args.self)

pub returns-then-self-open : goal.returns-then-self-open
returns-then-self-open c =
    let g = passed _ _ c.is_bad.ensures c.if-is_bad.false in
    push-done _ _ _ g (omega (arith, g.counted)) (omega (arith, finished-below c.args.self c.args.piece.now))

pub measured-requires : goal.measured-requires
measured-requires c =
    let g = passed _ _ c.is_bad.ensures c.if-is_bad.false in
    ((in_group _).none g.group, omega (arith, g.fits, place-finished c.args.self), omega (arith, g.counted))

pub returns-then-room-measured : goal.returns-then-room-measured
returns-then-room-measured c =
    let g = passed _ _ c.is_bad.ensures c.if-is_bad.false in
    push-small _ _ _ g (omega (arith, g.counted, c.if-self-piece.false)) (omega (arith, c.measured.ensures))

pub returns : goal.returns
returns c =
    let g = passed _ _ c.is_bad.ensures c.if-is_bad.false in
    push-done _ _ _ g (omega (arith, g.counted, c.if-self-piece.false)) (omega (arith, c.measured.ensures))
