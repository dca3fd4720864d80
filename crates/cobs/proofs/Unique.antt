-- Two results that meet a function's promise are equal, for every public function. Assumes nothing.
use Rattle.std.specs.Prelude.{Result, Ok, Err, if◌then◌else◌}
use mathlib.Core.Path.{◌≡◌, refl}
use Prim.Native.Nat.{ℕ}
use Rattle.cobs.specs.declared.refusals.TooLong.{TooLong}
use Rattle.cobs.specs.Answers.{Told, is_done}
use Rattle.cobs.specs.Lengths.{told, overhead_told, length_told}
use Rattle.cobs.proofs.Told.{one-result}

back : Told → Result ℕ TooLong
back t = if is_done t then Ok t.first else Err (record {})

back-told : (r : Result ℕ TooLong) → back (told r) ≡ r
unfolding back
back-told (Ok n) = refl
back-told (Err e) = refl

pub unique-max_encoding_overhead : (n : ℕ) (r s : Result ℕ TooLong) → told r ≡ overhead_told n → told s ≡ overhead_told n → r ≡ s
unique-max_encoding_overhead n r s p q = one-result told back back-told p q

pub unique-max_encoding_length : (n : ℕ) (r s : Result ℕ TooLong) → told r ≡ length_told n → told s ≡ length_told n → r ≡ s
unique-max_encoding_length n r s p q = one-result told back back-told p q
