-- `blocks::all` meets its contract. Assumes nothing.
use mathlib.Core.Path.{◌≡◌}
use mathlib.Core.Bool.{Bool}
use Prim.Native.Nat.{ℕ}
use lib.ListN.{take}
use Rattle.blocks.specs.Blocks.{each}
use Rattle.blocks.specs.Helpers.{Gives}
use Rattle.blocks.proofs.all.Given as goal

abbrev pub invariant-loop-b : goal.invariant-loop-b
invariant-loop-b g l = goal.F-IsAlwaysCallable g l.test × ((p : ℕ → Bool) → Gives (goal.F-post g l.test) p → l.held ≡ each p (take l.b-index l.fn.block))
