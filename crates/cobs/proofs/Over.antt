-- Bytes laid over a buffer. Assumes nothing.
use mathlib.Core.Path.{◌≡◌, refl, ap}
use mathlib.Core.List.{List, [], ◌∷◌, ◌++◌}
use Prim.Native.Nat.{ℕ, zero, suc, ◌≤◌}
use native.Mathlib.Nat.{le_of_suc-le-suc, not-suc-le-zero}
use lib.ListN.{length, drop, set}
use Rattle.cobs.specs.Code.{over}

pub length_over : (s d : List ℕ) → length (over s d) ≡ length d
length_over [] d = refl
length_over (b ∷ s) [] = refl
length_over (b ∷ s) (x ∷ d) = ap suc (length_over s d)

-- where there is room, all the bytes, and the buffer's own after them
pub over-fits : (s d : List ℕ) → length s ≤ length d → over s d ≡ s ++ drop (length s) d
over-fits [] d h = refl
over-fits (b ∷ s) [] h = absurd (not-suc-le-zero h)
over-fits (b ∷ s) (x ∷ d) h = ap (λ (t : List ℕ). b ∷ t) (over-fits s d (le_of_suc-le-suc h))

-- what stands past the bytes is the buffer's own
pub drop-over : (s d : List ℕ) (n : ℕ) → length s ≤ n → drop n (over s d) ≡ drop n d
drop-over [] d n h = refl
drop-over (b ∷ s) [] n h = refl
drop-over (b ∷ s) (x ∷ d) zero h = absurd (not-suc-le-zero h)
drop-over (b ∷ s) (x ∷ d) (suc n) h = drop-over s d n (le_of_suc-le-suc h)

-- one byte more, stored where it belongs; without room it is left out on both sides
pub over_snoc : (s : List ℕ) (b : ℕ) (d : List ℕ) → set (over s d) (length s) b ≡ over (s ++ b ∷ []) d
over_snoc [] b [] = refl
over_snoc [] b (x ∷ d) = refl
over_snoc (a ∷ s) b [] = refl
over_snoc (a ∷ s) b (x ∷ d) = ap (λ (t : List ℕ). a ∷ t) (over_snoc s b d)

-- one of the bytes, stored anew
pub over-set : (p : List ℕ) (x : ℕ) (r : List ℕ) (c : ℕ) (d : List ℕ) → set (over (p ++ x ∷ r) d) (length p) c ≡ over (p ++ c ∷ r) d
over-set [] x r c [] = refl
over-set [] x r c (y ∷ d) = refl
over-set (b ∷ p) x r c [] = refl
over-set (b ∷ p) x r c (y ∷ d) = ap (λ (t : List ℕ). b ∷ t) (over-set p x r c d)
