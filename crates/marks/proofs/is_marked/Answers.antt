-- `marks::is_marked` meets its contract. Assumes nothing.
use Rattle.marks.specs.Marks.{marked}
use Rattle.marks.proofs.is_marked.Goals as goal

pub returns : goal.returns
unfolding marked
returns c = cc
