-- `batch::Receiver::particle` meets its contract. Assumes nothing.
use Rattle.batch.proofs.Ways.{particle-room, particle-beyond, particle_repeat, particle-store}
use Rattle.batch.proofs.Receiver.particle.Goals as goal

pub returns-then-index-self : goal.returns-then-index-self
returns-then-index-self c = search (particle-room)

pub returns-then-index-limit : goal.returns-then-index-limit
returns-then-index-limit c = search (particle-beyond)

pub returns-then-is_marked : goal.returns-then-is_marked
returns-then-is_marked c = search (particle_repeat)

pub returns : goal.returns
returns c =
    let a = c.args in
    particle-store a.number a.self.now a.index a.weight c.if-index-self.false c.limit.result c.limit.ensures c.if-index-limit.false c.is_marked.result c.is_marked.ensures c.if-is_marked.false
