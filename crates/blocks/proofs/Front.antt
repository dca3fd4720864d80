-- A buffer's front XORed, byte by byte. Assumes nothing.
use mathlib.Core.Path.{◌≡◌, refl, ap, ◌∙◌}
use mathlib.Core.List.{List, [], ◌∷◌, ◌++◌}
use Prim.Native.Nat.{ℕ, zero, suc, ◌+◌, ◌≤◌, ◌<◌, min}
use native.Mathlib.Decide.{dec_lt}
use native.Mathlib.Omega.{arith}
use native.Mathlib.Nat.{not-suc-le-zero, le_of_suc-le-suc}
use native.Mathlib.Numerals.{add-one}
use lib.Bits.{bit_xor}
use lib.ListN.{length, get_or, set, take, drop}
use Rattle.cobs.specs.Code.{masked}
use Rattle.blocks.specs.Blocks.{masked_front}

masked_suc : (s i : ℕ) (d : List ℕ) → i < length d
    → set (masked_front s i d) i (bit_xor (get_or (masked_front s i d) i 0) s) ≡ masked_front s (suc i) d
unfolding masked_front
masked_suc s i [] h = absurd (not-suc-le-zero h)
masked_suc s zero (b ∷ d) h = refl
masked_suc s (suc i) (b ∷ d) h = ap (λ (t : List ℕ). bit_xor b s ∷ t) (masked_suc s i d (le_of_suc-le-suc h))

-- one byte more
pub masked-turn : (s i : ℕ) (d₀ d : List ℕ) → i < length d₀ → d ≡ masked_front s i d₀
    → set d i (bit_xor (get_or d i 0) s) ≡ masked_front s (i + 1) d₀
masked-turn s i d₀ d h e = rw (add-one i, e) (masked_suc s i d₀ h)

pub length-masked_front : (s i : ℕ) (d : List ℕ) → length (masked_front s i d) ≡ length d
unfolding masked_front
length-masked_front s zero d = refl
length-masked_front s (suc i) [] = refl
length-masked_front s (suc i) (b ∷ d) = ap suc (length-masked_front s i d)

-- as many as there are is all
pub masked-end : (s n : ℕ) (d : List ℕ) → length d ≤ n → masked_front s (length d) d ≡ masked_front s n d
unfolding masked_front
masked-end s n [] h = go n
  where
    go : (n : ℕ) → [] ≡ masked s (take n []) ++ drop n []
    go zero = refl
    go (suc n) = refl
masked-end s zero (b ∷ d) h = absurd (not-suc-le-zero h)
masked-end s (suc n) (b ∷ d) h = ap (λ (t : List ℕ). bit_xor b s ∷ t) (masked-end s n d (le_of_suc-le-suc h))

-- so many of them as there are
pub masked-min : (s n : ℕ) (d : List ℕ) (e : ℕ) → e ≡ min n (length d) → masked_front s e d ≡ masked_front s n d
masked-min s n d e q =
    elim (dec_lt n (length d)) [
      | yes h ↦ let all : e ≡ n = omega arith in ap (λ (k : ℕ). masked_front s k d) all
      | no h ↦ let all : e ≡ length d = omega arith in ap (λ (k : ℕ). masked_front s k d) all ∙ masked-end s n d (omega arith)
    ]

-- a front that was XORed by itself
pub masked-front : (s n : ℕ) (d : List ℕ) (e : ℕ) (t : List ℕ) → e ≡ min n (length d) → t ≡ masked s (take e d) → t ++ drop e d ≡ masked_front s n d
unfolding masked_front
masked-front s n d e t q r = ap (λ (f : List ℕ). f ++ drop e d) r ∙ masked-min s n d e q

-- all of it
pub masked-all : (s : ℕ) (d : List ℕ) → masked_front s (length d) d ≡ masked s d
unfolding masked_front
masked-all s [] = refl
masked-all s (b ∷ d) = ap (λ (t : List ℕ). bit_xor b s ∷ t) (masked-all s d)

pub masked-none : (s : ℕ) (d : List ℕ) → d ≡ masked_front s 0 d
unfolding masked_front
masked-none s d = refl
