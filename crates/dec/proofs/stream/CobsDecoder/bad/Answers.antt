-- `dec::stream::CobsDecoder::bad` meets its contract: the tests one by one. Assumes nothing.
use Rattle.dec.proofs.Good.{bad-beyond, bad-idle, bad-open}
use Rattle.dec.proofs.stream.CobsDecoder.bad.Goals as goal

pub returns-then-room-self : goal.returns-then-room-self
returns-then-room-self c = search (bad-beyond)

pub returns-in-Idle : goal.returns-in-Idle
returns-in-Idle c = search (bad-idle)

pub returns-in_default : goal.returns-in_default
returns-in_default c = search (bad-open)
