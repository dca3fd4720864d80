-- `blocks::write16` meets its contract. Assumes nothing.
use native.Mathlib.Omega.{arith}
use Rattle.blocks.proofs.Blocks.{write-turn}
use Rattle.blocks.proofs.write16.Goals as goal

pub loop-k-preserved : goal.loop-k-preserved
loop-k-preserved c =
    let a = c.args in
    write-turn a.dest.now c.loop-k.dest a.at a.block c.loop-k.k (omega arith) (omega arith) c.loop-k.invariant
