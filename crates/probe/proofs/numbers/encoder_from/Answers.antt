-- `probe::numbers::encoder_from` meets its contract. Assumes nothing.
use native.Mathlib.Omega.{arith}
use borrow.Author.Tests.{lt-ltb, le-ltb}
use Prim.Native.Nat.{◌≤◌, ◌<◌}
use Rattle.probe.specs.Numbers.{encoder_from}
use Rattle.probe.proofs.numbers.encoder_from.Goals as goal

pub returns-in_default : goal.returns-in_default
unfolding encoder_from
returns-in_default c =
    let l : 255 < c.args.code = omega (arith, c.in_default.ensures) in
    simp (c.no_encoder.ensures, lt-ltb _ _ l)

pub returns-then-full-gt1 : goal.returns-then-full-gt1
unfolding encoder_from
returns-then-full-gt1 c =
    let l : c.args.code ≤ 255 = omega (arith, c.in-Ok.ensures.0) in
    simp (c.no_encoder-then-full-gt1.ensures, le-ltb _ _ l, lt-ltb _ _ c.if-full-gt1.true)

pub returns : goal.returns
unfolding encoder_from
returns c =
    let l : c.args.code ≤ 255 = omega (arith, c.in-Ok.ensures.0) in
    simp (c.in-Ok.ensures.1, le-ltb _ _ l, le-ltb _ _ c.if-full-gt1.false)
