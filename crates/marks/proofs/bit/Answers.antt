-- `marks::bit` meets its contract. Assumes nothing.
use Rattle.marks.proofs.Bits.{shift_mask}
use Rattle.marks.proofs.bit.Goals as goal

pub returns : goal.returns
returns c = shift_mask c.args.w c.args.s
