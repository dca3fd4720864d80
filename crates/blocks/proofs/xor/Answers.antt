-- `blocks::xor` meets its contract. Assumes nothing.
use mathlib.Core.Path.{◌≡◌, ap, ◌∙◌}
use Prim.Native.Nat.{ℕ}
use native.Mathlib.Omega.{arith}
use lib.ListN.{length}
use Rattle.blocks.specs.Blocks.{masked_front}
use Rattle.blocks.proofs.Front.{masked-none, masked-turn, masked-all}
use Rattle.blocks.proofs.xor.Goals as goal

pub loop-b-init : goal.loop-b-init
loop-b-init c = masked-none _ _

pub loop-b-preserved : goal.loop-b-preserved
loop-b-preserved c = masked-turn c.args.v c.loop-b.b-index c.args.s.now c.loop-b.s (omega arith) c.loop-b.invariant

pub returns : goal.returns
returns c =
    let a = c.args in
    let all : c.loop-b.b-index ≡ length a.s.now = omega arith in
    c.loop-b.invariant ∙ ap (λ (k : ℕ). masked_front a.v k a.s.now) all ∙ masked-all a.v a.s.now
