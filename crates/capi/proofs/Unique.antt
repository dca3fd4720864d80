-- Two results that meet a call's promise are equal: the number, the values behind the out-parameters, and the buffer.
-- Assumes nothing.
use mathlib.Core.Path.{◌≡◌, sym, ◌∙◌}
use mathlib.Core.List.{List}
use Prim.Native.Nat.{ℕ}
use lib.ListN.{length}
use Rattle.cobs.specs.Answers.{tell}
use Rattle.cobs.proofs.Told.{Same, same}
use Rattle.cobs.specs.Lengths.{overhead_told, length_told}
use Rattle.record.specs.Frame.{frame_told, frame_dest}
use Rattle.capi.specs.Stream.{open_told, open_state, receive_told, receive_consumed, receive_state, receive_buffer, receive_table, state_told, state_total}
use Rattle.cobs.specs.OneShot.{plain, zeros_around, chosen, encode_told, encode_dest, decode_told, decode_dest, in_place_told, in_place_dest, with_sentinel_told, with_sentinel_dest}

pub unique-laksovuth_max_encoding_overhead : (n : ℕ) (r s a b : ℕ) → tell r a 0 ≡ overhead_told n → tell s b 0 ≡ overhead_told n → Same r s a b 0 0
unique-laksovuth_max_encoding_overhead n r s a b p q = same p q

pub unique-laksovuth_max_encoding_length : (n : ℕ) (r s a b : ℕ) → tell r a 0 ≡ length_told n → tell s b 0 ≡ length_told n → Same r s a b 0 0
unique-laksovuth_max_encoding_length n r s a b p q = same p q

pub unique-laksovuth_encode : (src dest : List ℕ) (r s a b : ℕ) (x y : List ℕ) → tell r a 0 ≡ encode_told plain src (length dest) → tell s b 0 ≡ encode_told plain src (length dest)
    → x ≡ encode_dest plain src dest → y ≡ encode_dest plain src dest → Same r s a b 0 0 × (x ≡ y)
unique-laksovuth_encode src dest r s a b x y p q u v = (same p q, u ∙ sym v)

pub unique-laksovuth_encode_including_sentinels : (src dest : List ℕ) (r s a b : ℕ) (x y : List ℕ) → tell r a 0 ≡ encode_told zeros_around src (length dest) → tell s b 0 ≡ encode_told zeros_around src (length dest)
    → x ≡ encode_dest zeros_around src dest → y ≡ encode_dest zeros_around src dest → Same r s a b 0 0 × (x ≡ y)
unique-laksovuth_encode_including_sentinels src dest r s a b x y p q u v = (same p q, u ∙ sym v)

pub unique-laksovuth_encode_with_sentinel : (sentinel : ℕ) (src dest : List ℕ) (r s a b : ℕ) (x y : List ℕ) → tell r a 0 ≡ encode_told (chosen sentinel) src (length dest) → tell s b 0 ≡ encode_told (chosen sentinel) src (length dest)
    → x ≡ encode_dest (chosen sentinel) src dest → y ≡ encode_dest (chosen sentinel) src dest → Same r s a b 0 0 × (x ≡ y)
unique-laksovuth_encode_with_sentinel sentinel src dest r s a b x y p q u v = (same p q, u ∙ sym v)

pub unique-laksovuth_decode : (src dest : List ℕ) (r s a b c d : ℕ) (x y : List ℕ) → tell r a c ≡ decode_told src (length dest) → tell s b d ≡ decode_told src (length dest)
    → x ≡ decode_dest src dest → y ≡ decode_dest src dest → Same r s a b c d × (x ≡ y)
unique-laksovuth_decode src dest r s a b c d x y p q u v = (same p q, u ∙ sym v)

pub unique-laksovuth_decode_in_place : (buf : List ℕ) (r s a b c d : ℕ) (x y : List ℕ) → tell r a c ≡ in_place_told buf → tell s b d ≡ in_place_told buf
    → x ≡ in_place_dest buf → y ≡ in_place_dest buf → Same r s a b c d × (x ≡ y)
unique-laksovuth_decode_in_place buf r s a b c d x y p q u v = (same p q, u ∙ sym v)

pub unique-laksovuth_decode_with_sentinel : (sentinel : ℕ) (src dest : List ℕ) (r s a b : ℕ) (x y : List ℕ) → tell r a 0 ≡ with_sentinel_told sentinel src (length dest) → tell s b 0 ≡ with_sentinel_told sentinel src (length dest)
    → x ≡ with_sentinel_dest sentinel src dest → y ≡ with_sentinel_dest sentinel src dest → Same r s a b 0 0 × (x ≡ y)
unique-laksovuth_decode_with_sentinel sentinel src dest r s a b x y p q u v = (same p q, u ∙ sym v)

-- ---- the stream

pub unique-laksovuth_write_frame : (message dest : List ℕ) (r s a b c d : ℕ) (x y : List ℕ) → tell r a c ≡ frame_told message (length dest) → tell s b d ≡ frame_told message (length dest)
    → x ≡ frame_dest message dest → y ≡ frame_dest message dest → Same r s a b c d × (x ≡ y)
unique-laksovuth_write_frame message dest r s a b c d x y p q u v = (same p q, u ∙ sym v)

pub unique-laksovuth_state_length : (r s : ℕ) → r ≡ 74 → s ≡ 74 → r ≡ s
unique-laksovuth_state_length r s p q = p ∙ sym q

pub unique-laksovuth_open : (ns : List ℕ) (batch n r s : ℕ) (x y : List ℕ) → tell r 0 0 ≡ open_told ns → tell s 0 0 ≡ open_told ns
    → x ≡ open_state ns batch n → y ≡ open_state ns batch n → Same r s 0 0 0 0 × (x ≡ y)
unique-laksovuth_open ns batch n r s x y p q u v = (same p q, u ∙ sym v)

-- the number and values, what was consumed, the numbers, the decode buffer and the table
pub unique-laksovuth_receive : (ns buffer table piece : List ℕ) (r s a b c d m n : ℕ) (x y f g t u : List ℕ)
    → tell r a c ≡ receive_told ns buffer table piece → tell s b d ≡ receive_told ns buffer table piece
    → m ≡ receive_consumed ns buffer table piece → n ≡ receive_consumed ns buffer table piece
    → x ≡ receive_state ns buffer table piece → y ≡ receive_state ns buffer table piece
    → f ≡ receive_buffer ns buffer table piece → g ≡ receive_buffer ns buffer table piece
    → t ≡ receive_table ns buffer table piece → u ≡ receive_table ns buffer table piece
    → Same r s a b c d × (m ≡ n) × (x ≡ y) × (f ≡ g) × (t ≡ u)
unique-laksovuth_receive ns buffer table piece r s a b c d m n x y f g t u p q pm pn px py pf pg pt pu =
    (same p q, pm ∙ sym pn, px ∙ sym py, pf ∙ sym pg, pt ∙ sym pu)

pub unique-laksovuth_stands : (ns : List ℕ) (n r s a b t u : ℕ) → tell r a 0 ≡ state_told ns n → tell s b 0 ≡ state_told ns n
    → t ≡ state_total ns n → u ≡ state_total ns n → Same r s a b 0 0 × (t ≡ u)
unique-laksovuth_stands ns n r s a b t u p q pt pu = (same p q, pt ∙ sym pu)
