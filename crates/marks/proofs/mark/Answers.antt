-- `marks::mark` meets its contract. Assumes nothing.
use mathlib.Core.Path.{sym}
use native.Mathlib.Omega.{arith}
use lib.Seq.{set_out}
use Rattle.marks.specs.Marks.{set_mark}
use Rattle.marks.proofs.mark.Goals as goal

pub returns-then-k-lt64 : goal.returns-then-k-lt64
unfolding set_mark
returns-then-k-lt64 c = cc

pub returns-else-k-lt64 : goal.returns-else-k-lt64
unfolding set_mark
returns-else-k-lt64 c = let a = c.args in sym (set_out a.marks.now _ _ (omega arith))
