-- `blocks::mask` meets its contract. Assumes nothing.
use Rattle.blocks.proofs.Front.{masked-front}
use Rattle.blocks.proofs.mask.Goals as goal

pub returns : goal.returns
returns c = masked-front c.args.sentinel c.args.n c.args.buf.now _ _ c.min-end.ensures c.xor.ensures
