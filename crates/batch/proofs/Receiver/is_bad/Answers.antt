-- `batch::Receiver::is_bad` meets its contract. Assumes nothing.
use native.Mathlib.Omega.{arith}
use Rattle.marks.proofs.Below.{below_le}
use Rattle.batch.proofs.Ways.{bad-table, bad-slots, bad-mark, bad-close, bad-total}
use Rattle.batch.proofs.Receiver.is_bad.Goals as goal

pub returns-then-self-room_for : goal.returns-then-self-room_for
returns-then-self-room_for c = search (bad-table)

pub returns-then-self-gt-MOST : goal.returns-then-self-gt-MOST
returns-then-self-gt-MOST c = search (bad-slots)

pub returns-then-marked-below : goal.returns-then-marked-below
returns-then-marked-below c = search (bad-mark)

pub returns-then-limit-self : goal.returns-then-limit-self
returns-then-limit-self c = search (bad-close)

pub overflow_cast-result : goal.overflow_cast-result
overflow_cast-result c = omega (arith, below_le c.args.self.now.marks 4096)

pub overflow_mul-result : goal.overflow_mul-result
overflow_mul-result c = omega (arith, below_le c.args.self.now.marks 4096)

pub returns : goal.returns
returns c = search (bad-total)
