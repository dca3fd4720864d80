-- `place::place::copy_down` meets its contract: `k` bytes are copied. Assumes nothing.
use mathlib.Core.Path.{refl, ap, ◌∙◌}
use mathlib.Core.List.{List}
use Prim.Native.Nat.{ℕ, ◌+◌, ◌<◌}
use native.Mathlib.Omega.{arith}
use lib.ListN.{length, get_or, set, drop, length-drop, length-set}
use lib.Seq.{paste-zero}
use Rattle.place.proofs.Copies.{copy-turn}
use Rattle.place.proofs.place.copy_down.Goals as goal

pub loop-k-init : goal.loop-k-init
loop-k-init c = (refl, paste-zero c.args.buf.now c.args.to (drop c.args.from c.args.buf.now))

pub loop-k-preserved : goal.loop-k-preserved
loop-k-preserved c =
    let a = c.args in
    let l = c.loop-k in
    let h : l.k < length (drop a.from a.buf.now) = simp length-drop (omega arith) in (
      simp length-set l.invariant.0,
      ap (λ (b : List ℕ). set b (a.to + l.k) (get_or b (a.from + l.k) 0)) l.invariant.1
          ∙ copy-turn a.buf.now a.from a.to l.k (omega arith) h (omega arith),
    )
