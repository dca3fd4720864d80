-- 01's starred known bytes: both sides are computed. Assumes nothing.
use mathlib.Core.Path.{refl}
use Rattle.cobs.specs.Code.{encode_in, encode, read_in, read}
use Rattle.cobs.specs.OneShot.{finished, encode_told, encode_dest, parsed, meant, decoded, decode_told, decode_dest, in_place_told}
use Rattle.cobs.specs.Known.{given, Known}

pub known : Known
unfolding given encode_told encode_dest finished encode encode_in decode_told decode_dest in_place_told decoded parsed meant read read_in
known = refl
