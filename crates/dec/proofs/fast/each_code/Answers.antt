-- `dec::fast::each_code` meets its contract: from code to code. Assumes nothing.
use mathlib.Core.Path.{refl}
use Prim.Native.Nat.{◌≤◌}
use native.Mathlib.Omega.{arith}
use Rattle.std.proofs.Common.{rules}
use Rattle.dec.proofs.Sixteen.{patch_first, patch_code, patch_last}
use Rattle.dec.proofs.fast.each_code.Goals as goal

pub loop-q-init : goal.loop-q-init
loop-q-init c =
    let b : c.args.opened.left ≤ 255 = omega (arith, c) in
    rw c.from-q.ensures (patch_first _ _ _ _ _ c.requires.i_in_bounds.0 c.requires.i_in_bounds.1 c.requires.clear b c.requires.le_left)

pub loop-q-preserved : goal.loop-q-preserved
loop-q-preserved c =
    let b : c.from-q-in-loop-q.result ≤ 255 = search rules in
    rw c.from-q-in-loop-q.ensures (patch_code _ _ _ _ _ c.requires.i_in_bounds.0 c.requires.i_in_bounds.1 c.requires.clear _ _ _ c.loop-q.invariant c.loop-q-test.true _ refl (rw c.from-q-in-loop-q.ensures at b))

pub returns : goal.returns
returns c = rw c.from-q.ensures at (patch_last _ _ _ _ _ c.requires.i_in_bounds.0 c.requires.i_in_bounds.1 c.requires.clear _ _ _ c.loop-q.invariant c.loop-q-test.false)
