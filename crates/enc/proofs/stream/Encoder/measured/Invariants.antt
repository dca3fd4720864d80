-- `enc::stream::Encoder::measured` meets its contract. Assumes nothing.
use Rattle.enc.proofs.Loops.{Going, numbered}
use Rattle.enc.proofs.stream.Encoder.measured.Given as goal

abbrev pub invariant-loop-b : goal.invariant-loop-b
invariant-loop-b l = Going l.piece (numbered l.initial.place l.initial.code l.initial.full 0) l.b-index (numbered l.place l.code l.full l.b-index)
