-- `numbers::fields::marks_in` meets its contract. Assumes nothing.
use native.Mathlib.Omega.{arith}
use Rattle.numbers.proofs.Naming.{marks-all}
use Rattle.numbers.proofs.fields.marks_in.Goals as goal

pub returns : goal.returns
returns c = grind (arith, marks-all)
