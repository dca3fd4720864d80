-- `enc::stream::Encoder::put_all` meets its contract. Assumes nothing.
use native.Mathlib.Omega.{arith}
use Rattle.enc.proofs.Steps.{in_group, sound}
use Rattle.enc.proofs.Loops.{going-sound, writing-on, writing-end}
use Rattle.enc.proofs.stream.Encoder.put_all.Goals as goal

pub put-at-requires : goal.put-at-requires
put-at-requires c =
    let p = c.requires in
    let g = c.loop-b.invariant.going in
    ((sound _).none (going-sound _ _ _ _ g ((in_group _).holds p.0) p.1 p.2), omega (arith, g.counted))

pub loop-b-preserved : goal.loop-b-preserved
loop-b-preserved c =
    writing-on _ _ _ _ _ _ c.loop-b.invariant
    c.loop-b-test.true _ _ c.put-at.ensures.next c.put-at.ensures.memory

pub returns : goal.returns
returns c =
    let both = writing-end _ _ _ _ _ _ c.loop-b.invariant c.loop-b-test.false in
    record { next = both.0; memory = both.1 }
