-- `dec::fast::each_code` meets its contract: from code to code. Assumes nothing.
use Prim.Native.Nat.{◌-◌}
use Rattle.dec.proofs.Sixteen.{Patching}
use Rattle.dec.proofs.fast.each_code.Given as goal

abbrev pub invariant-loop-q : goal.invariant-loop-q
invariant-loop-q l = Patching l.piece l.i l.initial.dest l.place (record { code = l.initial.code; left = l.initial.q }) l.dest l.code l.q

abbrev pub decreases-loop-q : goal.decreases-loop-q
decreases-loop-q l = 16 - l.q
