-- `enc::stream::Encoder::put_all` meets its contract. Assumes nothing.
use Rattle.enc.proofs.Loops.{Writing}
use Rattle.enc.proofs.stream.Encoder.put_all.Given as goal

abbrev pub invariant-loop-b : goal.invariant-loop-b
invariant-loop-b l = Writing l.piece l.initial.at l.initial.dest l.b-index l.at l.dest
