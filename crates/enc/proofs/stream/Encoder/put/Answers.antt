-- `enc::stream::Encoder::put` meets its contract: what a sound state asks for is done. Assumes nothing.
use native.Mathlib.Omega.{arith}
use Rattle.enc.specs.Stream.{moved, wrote}
use Rattle.enc.proofs.Steps.{sound, asked-is, next-is}
use Rattle.enc.proofs.stream.Encoder.put.Goals as goal

pub overflow_add-end : goal.overflow_add-end
overflow_add-end c = let g = (sound _).holds c.requires.0 in omega (arith, g.group.few, g.low)

pub returns : goal.returns
unfolding moved wrote
returns c =
    let g = (sound _).holds c.requires.0 in
    let p = c.push-result.ensures.state in
    let a = asked-is _ _ g _ p in
    record { next = rw (c.heed-full.ensures.full _ a, next-is _ _ g _ p); memory = c.heed-full.ensures.memory _ a }
