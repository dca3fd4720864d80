-- `enc::fast::mark` meets its contract. Assumes nothing.
use borrow.Author.Tests.{eq-eqb, ne_eqb}
use Rattle.enc.proofs.fast.mark.Goals as goal

pub returns-then-byte-eq0 : goal.returns-then-byte-eq0
returns-then-byte-eq0 c = record { place = simp (eq-eqb _ _ c.if-byte-eq0.true); memory = simp (eq-eqb _ _ c.if-byte-eq0.true) }

pub returns : goal.returns
returns c = record { place = simp (ne_eqb _ _ c.if-byte-eq0.false); memory = simp (ne_eqb _ _ c.if-byte-eq0.false) }
