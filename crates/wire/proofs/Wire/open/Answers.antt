-- `wire::Wire::open` meets its contract. Assumes nothing.
use mathlib.Core.Path.{ap₂}
use Rattle.batch.specs.declared.Receiver.{Receiver}
use Rattle.dec.specs.declared.stream.CobsDecoder.{CobsDecoder}
use Rattle.wire.proofs.Wire.open.Goals as goal

pub returns : goal.returns
returns c = ap₂ (λ (d : CobsDecoder) (r : Receiver). record { decoder = d; receiver = r }) c.new-decoder.ensures c.open-receiver.ensures
