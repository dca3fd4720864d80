-- The state that a code leads to. Assumes nothing.
use mathlib.Core.Path.{◌≡◌, ap}
use Prim.Native.Nat.{ℕ, pred}
use native.Mathlib.Omega.{arith}
use lib.Dec.{eqb}
use borrow.Author.Tests.{eqb-true}
use Rattle.dec.specs.Helpers.{group}
use Rattle.dec.specs.State.{opened}
use Rattle.dec.specs.declared.state.DecoderState.TheVariants.{GrabChain}
use Rattle.dec.proofs.Cases.{by_bool}

pub opened-group : (c : ℕ) → opened c ≡ group (eqb c 255) (pred c)
opened-group c =
    by_bool (eqb c 255) (λ e. rw e (ap GrabChain (let k : c ≡ 255 = eqb-true c 255 e in omega arith))) (λ e. rw e)
