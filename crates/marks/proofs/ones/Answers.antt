-- `marks::ones` meets its contract. Assumes nothing.
use native.Mathlib.Omega.{arith}
use lib.Count.{ones-le}
use Rattle.marks.proofs.Bits.{ones-counted}
use Rattle.marks.proofs.ones.Goals as goal

pub overflow_cast-result : goal.overflow_cast-result
overflow_cast-result c = omega (arith, ones-le 64 c.args.w c.ranges.w.fits)

pub returns : goal.returns
returns c = ones-counted 64 c.args.w c.ranges.w.fits
