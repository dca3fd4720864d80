-- `marks::ones_below` meets its contract. Assumes nothing.
use mathlib.Core.Path.{◌≡◌}
use Prim.Native.Nat.{◌-◌, ◌*◌, ◌%◌, ◌^◌}
use native.Mathlib.Omega.{arith}
use lib.Pow.{pow_pos}
use lib.Bits.{bit_and}
use lib.Count.{ones}
use Rattle.marks.specs.Marks.{bit_at, count_below}
use Rattle.marks.proofs.Counts.{count-both}
use Rattle.marks.proofs.Bits.{one_shifted, ones-masked}
use Rattle.marks.proofs.ones_below.Goals as goal

counted : (c : goal.Start) → ones (bit_and c.args.w ((1 * 2 ^ c.args.s) % 2 ^ 64 - 1)) ≡ count_below (bit_at c.args.w) c.args.s
counted c = rw (one_shifted c.args.s c.requires) (ones-masked c.args.w c.args.s)

pub overflow_sub-result : goal.overflow_sub-result
overflow_sub-result c = omega (arith, one_shifted c.args.s c.requires, pow_pos c.args.s)

pub overflow_cast-result : goal.overflow_cast-result
overflow_cast-result c = omega (arith, counted c, count-both (bit_at c.args.w) c.args.s)

pub returns : goal.returns
returns c = counted c
