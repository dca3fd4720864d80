-- 01's starred known bytes: both sides are computed. Assumes nothing.
use Rattle.std.proofs.Common.{refl}
use Rattle.cobs.specs.Code.{encode_in, encode, read_in, read}
use Rattle.cobs.specs.OneShot.{finished, encode_told, encode_dest, parsed, meant, decoded, decode_told, decode_dest, in_place_told}
use Rattle.cobs.specs.Known as code
use Rattle.record.specs.Record.{fields_of, bytes_of, fields_for, record_in, is_valid, write_told, written_bytes, is_record, read_of}
use Rattle.record.specs.Known.{given, Known}

pub known : Known
unfolding given code.given encode_told encode_dest finished encode encode_in decode_told decode_dest in_place_told decoded parsed meant read read_in write_told written_bytes is_record read_of is_valid fields_for fields_of bytes_of record_in
known = refl
