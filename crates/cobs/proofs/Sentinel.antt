-- XOR with a sentinel, twice, is nothing. Assumes nothing.
use mathlib.Core.Path.{◌≡◌, refl, sym, ap, ap₂, ◌∙◌}
use mathlib.Core.Logic.{◌≢◌}
use mathlib.Core.List.{List, [], ◌∷◌}
use Prim.Native.Nat.{ℕ, zero, suc, ◌+◌, ◌*◌, ◌/◌, ◌%◌, ◌<◌}
use native.Mathlib.Nat.{div-add-mod', mod-lt, zero-lt-suc}
use native.Mathlib.Omega.{arith}
use lib.ListN.{length}
use lib.Arith.{bin_ind}
use lib.Bits.{bit_xor, differ, xor_step, xor_self, xor_shr, xor_mod}
use Rattle.cobs.specs.Code.{NoZero, masked}

digit : (x y : ℕ) → x < 2 → y < 2 → differ (bit_xor x y) y ≡ x
digit zero zero h k = refl
digit zero (suc zero) h k = refl
digit (suc zero) zero h k = refl
digit (suc zero) (suc zero) h k = refl
digit zero (suc (suc y)) h k = absurd (omega arith)
digit (suc zero) (suc (suc y)) h k = absurd (omega arith)
digit (suc (suc x)) y h k = absurd (omega arith)

pub xor_twice : (a s : ℕ) → bit_xor (bit_xor a s) s ≡ a
xor_twice =
    bin_ind (λ (n : ℕ). (s : ℕ) → bit_xor (bit_xor n s) s ≡ n) xor_self
    (λ n ih s.
    xor_step (bit_xor n s) s
    ∙ ap₂ (λ (x y : ℕ). bit_xor x (s / 2) * 2 + differ y (s % 2)) (xor_shr n s 1) (xor_mod n s 1)
    ∙ ap₂ (λ (x y : ℕ). x * 2 + y) (ih (s / 2)) (digit (n % 2) (s % 2) (mod-lt n (zero-lt-suc 1)) (mod-lt s (zero-lt-suc 1)))
    ∙ div-add-mod' n 2)

pub masked_twice : (s : ℕ) (l : List ℕ) → masked s (masked s l) ≡ l
masked_twice s [] = refl
masked_twice s (b ∷ l) = ap₂ (λ (x : ℕ) (t : List ℕ). x ∷ t) (xor_twice b s) (masked_twice s l)

pub length-masked : (s : ℕ) (l : List ℕ) → length (masked s l) ≡ length l
length-masked s [] = refl
length-masked s (b ∷ l) = ap suc (length-masked s l)

-- The sentinel is none of the bytes.
abbrev pub Without : ℕ → List ℕ → Type 0
Without s [] = Unit {0}
Without s (b ∷ l) = (b ≢ s) × Without s l

-- a list without a zero, masked, is without the sentinel
pub masked_without : (s : ℕ) (l : List ℕ) → NoZero l → Without s (masked s l)
masked_without s [] h = tt
masked_without s (b ∷ l) h =
    ((λ e. let z : b ≡ 0 = sym (xor_twice b s) ∙ ap (λ (x : ℕ). bit_xor x s) e ∙ xor_self s in omega (arith, z, h.0)), masked_without s l h.1)
