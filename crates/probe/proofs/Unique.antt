-- Two results that meet a call's promise are equal: the number, the values behind the out-parameters, and both arrays.
-- Assumes nothing.
use mathlib.Core.Path.{◌≡◌, sym, ◌∙◌}
use mathlib.Core.List.{List}
use Prim.Native.Nat.{ℕ}
use lib.ListN.{length}
use Rattle.cobs.specs.Code.{masked}
use Rattle.cobs.specs.Answers.{tell}
use Rattle.cobs.specs.OneShot.{in_place_told, in_place_dest, size_alone}
use Rattle.enc.specs.Stream.{push_told, push_dest, finish_told, finish_dest}
use Rattle.dec.specs.State.{stepped, given_told}
use Rattle.dec.specs.Stream.{push_dest as decode_dest}
use Rattle.cobs.proofs.Told.{Same, same}
use Rattle.probe.specs.Numbers.{encoder_of, decoder_of, state_from, tag, to_come, start_told, start_numbers, push_numbers, decoded, decode_numbers}

pub unique-probe_encoder_start : (numbers dest : List ℕ) (r s : ℕ) (x y : List ℕ)
    → tell r 0 0 ≡ start_told numbers (length dest) → tell s 0 0 ≡ start_told numbers (length dest)
    → x ≡ start_numbers numbers (length dest) → y ≡ start_numbers numbers (length dest) → Same r s 0 0 0 0 × (x ≡ y)
unique-probe_encoder_start numbers dest r s x y p q u v = (same p q, u ∙ sym v)

pub unique-probe_encoder_push : (numbers piece dest : List ℕ) (r s : ℕ) (k l x y : List ℕ)
    → tell r 0 0 ≡ push_told (encoder_of numbers) piece (length dest) → tell s 0 0 ≡ push_told (encoder_of numbers) piece (length dest)
    → k ≡ push_numbers numbers piece (length dest) → l ≡ push_numbers numbers piece (length dest)
    → x ≡ push_dest (encoder_of numbers) piece dest → y ≡ push_dest (encoder_of numbers) piece dest → Same r s 0 0 0 0 × (k ≡ l) × (x ≡ y)
unique-probe_encoder_push numbers piece dest r s k l x y p q e f u v = (same p q, e ∙ sym f, u ∙ sym v)

pub unique-probe_encoder_finalize : (numbers dest : List ℕ) (r s a b : ℕ) (x y : List ℕ)
    → tell r a 0 ≡ finish_told (encoder_of numbers) (length dest) → tell s b 0 ≡ finish_told (encoder_of numbers) (length dest)
    → x ≡ finish_dest (encoder_of numbers) dest → y ≡ finish_dest (encoder_of numbers) dest → Same r s a b 0 0 × (x ≡ y)
unique-probe_encoder_finalize numbers dest r s a b x y p q u v = (same p q, u ∙ sym v)

pub unique-probe_decoder_push : (numbers piece dest : List ℕ) (r s a b c d : ℕ) (k l x y : List ℕ)
    → tell r a c ≡ (decoded numbers piece (length dest)).answer → tell s b d ≡ (decoded numbers piece (length dest)).answer
    → k ≡ decode_numbers numbers piece (length dest) → l ≡ decode_numbers numbers piece (length dest)
    → x ≡ decode_dest (decoder_of numbers) piece dest → y ≡ decode_dest (decoder_of numbers) piece dest → Same r s a b c d × (k ≡ l) × (x ≡ y)
unique-probe_decoder_push numbers piece dest r s a b c d k l x y p q e f u v = (same p q, e ∙ sym f, u ∙ sym v)

pub unique-probe_decoder_step : (state left byte : ℕ) (r s a b c d k l x y : ℕ)
    → tell r a c ≡ given_told (state_from state left) byte → tell s b d ≡ given_told (state_from state left) byte
    → k ≡ tag (stepped (state_from state left) byte).state → l ≡ tag (stepped (state_from state left) byte).state
    → x ≡ to_come (stepped (state_from state left) byte).state → y ≡ to_come (stepped (state_from state left) byte).state
    → Same r s a b c d × (k ≡ l) × (x ≡ y)
unique-probe_decoder_step state left byte r s a b c d k l x y p q e f u v = (same p q, e ∙ sym f, u ∙ sym v)

pub unique-probe_decode_in_place_with_sentinel : (buf : List ℕ) (sentinel : ℕ) (r s a b : ℕ) (x y : List ℕ)
    → tell r a 0 ≡ size_alone (in_place_told (masked sentinel buf)) → tell s b 0 ≡ size_alone (in_place_told (masked sentinel buf))
    → x ≡ in_place_dest (masked sentinel buf) → y ≡ in_place_dest (masked sentinel buf) → Same r s a b 0 0 × (x ≡ y)
unique-probe_decode_in_place_with_sentinel buf sentinel r s a b x y p q u v = (same p q, u ∙ sym v)
