-- `enc::stream::Encoder::measured` meets its contract. Assumes nothing.
use Rattle.enc.proofs.Loops.{counting_end, going_on}
use Rattle.enc.proofs.Steps.{moved_zero, moved-full, moved_add}
use Rattle.enc.proofs.stream.Encoder.measured.Goals as goal
use Rattle.enc.proofs.stream.Encoder.measured.Goals.{then-b-eq0, else-b-eq0+then-code, else-b-eq0+else-code}

pub loop-b-preserved : goal.loop-b-preserved
loop-b-preserved c =
    elim c.if-b-eq0.branch [
      | then-b-eq0 w ↦ rw (w.place-is, w.code-is, w.full-is) (going_on _ _ _ _ c.loop-b.invariant c.loop-b-test.true _ (moved_zero _ _ w.if-b-eq0.true))
      | else-b-eq0+then-code w ↦ rw (w.place-is, w.code-is, w.full-is) (going_on _ _ _ _ c.loop-b.invariant c.loop-b-test.true _ (moved-full _ _ w.if-b-eq0.false w.if-code.true))
      | else-b-eq0+else-code w ↦ rw (w.place-is, w.code-is, w.full-is) (going_on _ _ _ _ c.loop-b.invariant c.loop-b-test.true _ (moved_add _ _ w.if-b-eq0.false w.if-code.false))
    ]

pub returns-then-full : goal.returns-then-full
returns-then-full c = rw c.if-full.true at (counting_end _ c.args.self _ _ _ _ c.loop-b.invariant c.loop-b-test.false)

pub returns-else-full : goal.returns-else-full
returns-else-full c = rw c.if-full.false at (counting_end _ c.args.self _ _ _ _ c.loop-b.invariant c.loop-b-test.false)
