-- Laws of the bits of one word: what shifts, masks and `count_ones` mean, and what setting a bit changes. Assumes nothing.
use mathlib.Core.Path.{◌≡◌, refl, sym, ap, ap₂, ◌∙◌, subst}
use mathlib.Core.Bool.{Bool, true, false, cond, ◌||◌, or-true, or-false}
use mathlib.Core.Logic.{◌≢◌}
use Prim.Native.Nat.{ℕ, zero, suc, ◌+◌, ◌-◌, ◌*◌, ◌/◌, ◌%◌, ◌^◌, ◌<◌, max}
use native.Mathlib.Nat.{mod-lt, add-zero, one-mul, add-mul, add_comm, zero-div, div_self, div-eq_of_lt, mul-mod_left, pow-suc}
use native.Mathlib.Decide.{dec_lt}
use native.Mathlib.Omega.{arith}
use lib.Dec.{eqb}
use lib.Pow.{pow_pos, pow-lt, pow-add, split, shl-shr, shl_exact, shr_lt, field, mod-mod-pow}
use lib.Bits.{bit_and, bit_or, and_mask, or_shr, or_mod, or_block, or_step, or_zero_r}
use lib.Count.{ones, ones_cat}
use borrow.Author.Tests.{eqb-true, eqb-false}
use Rattle.marks.specs.Marks.{bit_at, with_bit, count_below}
use Rattle.marks.proofs.Counts.{count_same}

-- ---- Shift and mask

-- `(w >> s) & 1 == 1`
pub shift_mask : (w s : ℕ) → eqb (bit_and (w / 2 ^ s) 1) 1 ≡ bit_at w s
unfolding bit_at
shift_mask w s = rw (and_mask (w / 2 ^ s) 1)

-- `1 << s`, in 64 bits.
pub one_shifted : (s : ℕ) → s < 64 → (1 * 2 ^ s) % 2 ^ 64 ≡ 2 ^ s
one_shifted s h = shl_exact {a = 1} 1 s 64 (omega arith) (omega arith) ∙ one-mul (2 ^ s)

-- The lowest bit at 1.
or_one : (q : ℕ) → bit_or q 1 ≡ cond (eqb (q % 2) 1) q (q + 1)
or_one q = rw (or_step q 1, or_zero_r (q / 2)) (low (eqb (q % 2) 1) refl)
  where
    low : (b : Bool) → eqb (q % 2) 1 ≡ b → q / 2 * 2 + max (q % 2) 1 ≡ cond b q (q + 1)
    low true e = omega (arith, eqb-true (q % 2) 1 e)
    low false e = omega (arith, eqb-false (q % 2) 1 e)

-- `w | (1 << s)`
pub or_bit : (w s : ℕ) → bit_or w (2 ^ s) ≡ with_bit w s
unfolding with_bit bit_at
or_bit w s =
    ap₂ bit_or (sym (split w s)) (sym (add-zero (1 * 2 ^ s) ∙ one-mul (2 ^ s)))
    ∙ or_block s (w / 2 ^ s) 1 (w % 2 ^ s) 0 (mod-lt w (pow_pos s)) (pow_pos s)
    ∙ ap₂ (λ (x y : ℕ). x * 2 ^ s + y) (or_one (w / 2 ^ s)) (or_zero_r (w % 2 ^ s))
    ∙ join (eqb (w / 2 ^ s % 2) 1)
  where
    join : (b : Bool) → cond b (w / 2 ^ s) (w / 2 ^ s + 1) * 2 ^ s + w % 2 ^ s ≡ cond b w (w + 2 ^ s)
    join true = split w s
    join false = omega (arith, add-mul (w / 2 ^ s) 1 (2 ^ s), split w s)

-- ---- Setting a bit

or_digit : (x y : ℕ) → x < 2 → y < 2 → eqb (bit_or x y) 1 ≡ (eqb x 1 || eqb y 1)
or_digit zero zero h k = refl
or_digit zero (suc zero) h k = refl
or_digit (suc zero) zero h k = refl
or_digit (suc zero) (suc zero) h k = refl
or_digit zero (suc (suc y)) h k = absurd (omega arith)
or_digit (suc zero) (suc (suc y)) h k = absurd (omega arith)
or_digit (suc (suc x)) y h k = absurd (omega arith)

bit-or : (w v t : ℕ) → bit_at (bit_or w v) t ≡ (bit_at w t || bit_at v t)
unfolding bit_at
bit-or w v t =
    rw (or_shr w v t, or_mod (w / 2 ^ t) (v / 2 ^ t) 1)
    (or_digit (w / 2 ^ t % 2) (v / 2 ^ t % 2) (omega arith) (omega arith))

-- The bits of `1 << s`.
power_here : (s : ℕ) → bit_at (2 ^ s) s ≡ true
unfolding bit_at
power_here s = rw (div_self (pow_pos s))

power_above : (s t : ℕ) → s < t → bit_at (2 ^ s) t ≡ false
unfolding bit_at
power_above s t h = rw (div-eq_of_lt (pow-lt h))

power_below : (d t : ℕ) → bit_at (2 ^ (suc d + t)) t ≡ false
unfolding bit_at
power_below d t = rw (pow-add 2 (suc d) t, shl-shr (2 ^ suc d) t, pow-suc 2 d, mul-mod_left (2 ^ d) 2)

power_other : (s t : ℕ) → t ≢ s → bit_at (2 ^ s) t ≡ false
power_other s t d =
    elim (dec_lt s t) [
      | yes h ↦ power_above s t h
      | no h ↦ ap (λ (x : ℕ). bit_at (2 ^ x) t) {x = s} {y = suc (s - t - 1) + t} (omega arith) ∙ power_below (s - t - 1) t
    ]

pub bit-set : (w s : ℕ) → bit_at (with_bit w s) s ≡ true
bit-set w s = rw (← or_bit w s, bit-or, power_here, or-true)

pub bit-other : (w s t : ℕ) → t ≢ s → bit_at (with_bit w s) t ≡ bit_at w t
bit-other w s t d = rw (← or_bit w s, bit-or, power_other s t d, or-false)

pub zero_bit : (s : ℕ) → bit_at 0 s ≡ false
unfolding bit_at
zero_bit s = rw (zero-div (2 ^ s))

-- ---- Counting bits

low_bit : (w k t : ℕ) → t < k → bit_at (w % 2 ^ k) t ≡ bit_at w t
unfolding bit_at
low_bit w k t h =
    ap (λ (x : ℕ). eqb (w % 2 ^ x / 2 ^ t % 2) 1) {x = k} {y = (k - t) + t} (omega arith)
    ∙ ap (λ (x : ℕ). eqb (x % 2) 1) (field w (k - t) t)
    ∙ ap (λ (x : ℕ). eqb (w / 2 ^ t % 2 ^ x % 2) 1) {x = k - t} {y = (k - t - 1) + 1} (omega arith)
    ∙ ap (λ (x : ℕ). eqb x 1) (mod-mod-pow (w / 2 ^ t) (k - t - 1) 1)

ones-digit : (b : ℕ) → b < 2 → ones b ≡ cond (eqb (b % 2) 1) 1 0
unfolding ones
ones-digit zero h = refl
ones-digit (suc zero) h = refl
ones-digit (suc (suc b)) h = absurd (omega arith)

-- `count_ones` of a word of k bits.
pub ones-counted : (k w : ℕ) → w < 2 ^ k → ones w ≡ count_below (bit_at w) k
unfolding count_below bit_at
ones-counted zero w h = ap ones {x = w} {y = 0} (omega arith) ∙ ones-digit 0 (omega arith)
ones-counted (suc k) w h =
    ap ones (sym (split w k))
    ∙ ones_cat k (w / 2 ^ k) (w % 2 ^ k) (mod-lt w (pow_pos k))
    ∙ add_comm (ones (w / 2 ^ k)) (ones (w % 2 ^ k))
    ∙ ap₂ ◌+◌
    (ones-counted k (w % 2 ^ k) (mod-lt w (pow_pos k)) ∙ count_same (bit_at (w % 2 ^ k)) (bit_at w) k (low_bit w k))
    (ones-digit (w / 2 ^ k) (shr_lt 1 k (subst (λ (x : ℕ). w < 2 ^ x) (omega arith) h)))

-- `count_ones` of `w & ((1 << s) - 1)`.
pub ones-masked : (w s : ℕ) → ones (bit_and w (2 ^ s - 1)) ≡ count_below (bit_at w) s
ones-masked w s =
    ap ones (and_mask w s)
    ∙ ones-counted s (w % 2 ^ s) (mod-lt w (pow_pos s))
    ∙ count_same (bit_at (w % 2 ^ s)) (bit_at w) s (low_bit w s)
