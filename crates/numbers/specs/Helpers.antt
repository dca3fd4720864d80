-- What the private helpers promise. No public promise cites it. Assumes nothing.
use Rattle.std.specs.Prelude.{◌<◌, get_or}
use Rattle.wire.specs.declared.Wire.{Wire}
use Rattle.numbers.specs.Numbers.{state_numbers, close_numbers}

-- Every field within its type.
pub record Fits (w : Wire) : Type 0 where
  pub left : get_or (state_numbers w.decoder.state) 1 0 < 256
  pub total : w.receiver.total < 4_294_967_296
  pub closed : get_or (close_numbers w.receiver.close) 2 0 < 4_294_967_296
  pub batch : w.receiver.batch < 65_536
