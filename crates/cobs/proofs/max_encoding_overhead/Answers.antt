-- `cobs::max_encoding_overhead` meets its contract. Assumes nothing.
use native.Mathlib.Omega.{arith}
use Rattle.cobs.proofs.Lengths.{overhead-long, overhead-short}
use Rattle.cobs.proofs.Encoding.{overhead-max}
use Rattle.cobs.proofs.max_encoding_overhead.Goals as goal

pub returns-then-n-gt-LONGEST : goal.returns-then-n-gt-LONGEST
returns-then-n-gt-LONGEST c = overhead-long _ c.if-n-gt-LONGEST.true

pub returns : goal.returns
returns c = overhead-short c.args.n _ (omega arith) (omega (arith, overhead-max c.args.n))
