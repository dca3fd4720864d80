-- `blocks::all` meets its contract. Assumes nothing.
use mathlib.Core.Path.{refl}
use native.Mathlib.Omega.{arith}
use Rattle.blocks.proofs.Blocks.{each-turn, each-end}
use Rattle.blocks.proofs.all.Goals as goal

pub loop-b-init : goal.loop-b-init
loop-b-init g c = (c.requires, λ p h. refl)

pub loop-b-preserved : goal.loop-b-preserved
loop-b-preserved g c = (c.requires, λ p h. each-turn p c.args.block c.loop-b.b-index c.loop-b.held _ (omega arith) (c.loop-b.invariant.1 p h) (h _ _ c.test-held.ensures))

pub returns : goal.returns
returns g c = λ p h. each-end p c.args.block c.loop-b.b-index c.loop-b.held (omega arith) (c.loop-b.invariant.1 p h)
