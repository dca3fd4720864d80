-- `dec::fast::bytes` meets its contract: `k` bytes are passed. Assumes nothing.
use mathlib.Core.Path.{refl}
use native.Mathlib.Omega.{arith}
use Rattle.dec.proofs.Inside.{passed_more}
use Rattle.dec.proofs.fast.bytes.Goals as goal

pub loop-k-preserved : goal.loop-k-preserved
loop-k-preserved c =
    passed_more _ _ _ _ _ _ _ c.loop-k.invariant c.loop-k-test.true (omega arith) (omega arith) _ refl c.if-b-eq0.false
