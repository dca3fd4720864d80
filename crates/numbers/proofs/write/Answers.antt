-- `numbers::write` meets its contract: the head, then the marks. Assumes nothing.
use mathlib.Core.Path.{ap, ◌∙◌}
use native.Mathlib.Omega.{arith}
use Rattle.numbers.specs.Numbers.{read_of}
use Rattle.numbers.proofs.Naming.{write-long, write-both, written_read, other-read}
use Rattle.numbers.proofs.write.Goals as goal

pub returns-then-numbers-ne-COUNT : goal.returns-then-numbers-ne-COUNT
returns-then-numbers-ne-COUNT c =
    let a = c.args in
    record { memory = write-long a.numbers.now a.wire (λ e. omega arith); named = other-read a.numbers.now a.wire (λ e. omega arith) }

pub returns : goal.returns
returns c =
    let a = c.args in
    let h = c.head_of-head.ensures in
    let left = write-both a.numbers.now a.wire (omega arith) _ _ _ h.head c.copy_from_slice.ensures.after c.copy_from_slice-2.ensures.after in
    record { memory = left; named = ap read_of left ∙ written_read a.numbers.now a.wire h.fits (omega arith) (omega arith) }
