-- `probe::numbers::decoder_from` meets its contract. Assumes nothing.
use native.Mathlib.Omega.{arith}
use borrow.Author.Tests.{lt-ltb, le-ltb}
use Prim.Native.Nat.{◌≤◌, ◌<◌}
use Rattle.probe.specs.Numbers.{decoder_from}
use Rattle.probe.proofs.numbers.decoder_from.Goals.{then-skip-gt1-via-then-skip-gt1, then-skip-gt1-via-else-skip-gt1+then-tag-gt2}
use Rattle.probe.proofs.numbers.decoder_from.Goals as goal

pub returns-then-skip-gt1 : goal.returns-then-skip-gt1
unfolding decoder_from
returns-then-skip-gt1 c =
    elim c.then-skip-gt1.branch [
      | then-skip-gt1-via-then-skip-gt1 w ↦ simp (c.no_decoder.ensures, lt-ltb _ _ w.if-skip-gt1.true)
      | then-skip-gt1-via-else-skip-gt1+then-tag-gt2 w ↦ simp (c.no_decoder.ensures, le-ltb _ _ w.if-skip-gt1.false, lt-ltb _ _ w.if-tag-gt2.true)
    ]

pub returns-in_default : goal.returns-in_default
unfolding decoder_from
returns-in_default c =
    let l : 255 < c.args.left = omega (arith, c.in_default.ensures) in
    simp (c.no_decoder-in_default.ensures, le-ltb _ _ c.if-skip-gt1.false, le-ltb _ _ c.if-tag-gt2.false, lt-ltb _ _ l)

pub returns : goal.returns
unfolding decoder_from
returns c =
    let l : c.args.left ≤ 255 = omega (arith, c.in-Ok.ensures.0) in
    simp (c.state_from.ensures, c.in-Ok.ensures.1, le-ltb _ _ c.if-skip-gt1.false, le-ltb _ _ c.if-tag-gt2.false, le-ltb _ _ l)
