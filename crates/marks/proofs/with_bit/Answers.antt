-- `marks::with_bit` meets its contract. Assumes nothing.
use Rattle.marks.proofs.Bits.{one_shifted, or_bit}
use Rattle.marks.proofs.with_bit.Goals as goal

pub returns : goal.returns
returns c = rw (one_shifted c.args.s c.requires) (or_bit c.args.w c.args.s)
