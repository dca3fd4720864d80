-- `probe::numbers::put` meets its contract. Assumes nothing.
use mathlib.Core.Path.{ap, ◌∙◌}
use mathlib.Core.List.{List, ◌++◌}
use Prim.Native.Nat.{ℕ}
use native.Mathlib.Omega.{arith}
use lib.ListN.{drop}
use Rattle.probe.proofs.Arrays.{over-front}
use Rattle.probe.proofs.numbers.put.Goals as goal

pub returns : goal.returns
returns c =
    let d = c.args.numbers.now in
    let n = c.min-n.result in
    ap (λ (l : List ℕ). l ++ drop n d) c.copy_from_slice.ensures.after
    ∙ over-front c.args.values d n (omega arith) (omega arith) (λ h. omega arith)
