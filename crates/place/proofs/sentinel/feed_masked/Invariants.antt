-- `place::sentinel::feed_masked` meets its contract: byte by byte. Assumes nothing.
use Rattle.cobs.specs.Code.{masked}
use Rattle.dec.proofs.Streamed.{Streamed}
use Rattle.place.proofs.sentinel.feed_masked.Given as goal

abbrev pub invariant-loop-b : goal.invariant-loop-b
invariant-loop-b l = Streamed (masked l.sentinel l.src) l.initial.dest l.b-index l.decoder l.dest
