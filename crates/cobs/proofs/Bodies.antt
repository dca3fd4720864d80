-- The body before a zero: what stands after the zero does not matter. Assumes nothing.
use mathlib.Core.Path.{◌≡◌, refl, sym, ap, ◌∙◌}
use mathlib.Core.List.{List, [], ◌∷◌, ◌++◌}
use Prim.Native.Nat.{ℕ, zero, suc, ◌+◌, ◌≤◌, ◌<◌, zero-le, suc-le-suc}
use native.Mathlib.Nat.{not-suc-le-zero, zero-add, suc-add}
use lib.ListN.{length, replicate}
use Rattle.cobs.specs.Code.{NoZero, body}
use Rattle.cobs.specs.OneShot.{leading, closing}

-- a body is what stands before a zero, or before the end
pub body-front : (s t : List ℕ) → NoZero s → body t ≡ [] → body (s ++ t) ≡ s
body-front [] t h e = e
body-front (zero ∷ s) t h e = absurd (not-suc-le-zero h.0)
body-front (suc b ∷ s) t h e = ap (λ (r : List ℕ). suc b ∷ r) (body-front s t h.1 e)

-- whatever stands after the zero
pub body-after : (s t : List ℕ) → body (s ++ 0 ∷ t) ≡ body s
body-after [] t = refl
body-after (zero ∷ s) t = refl
body-after (suc b ∷ s) t = ap (λ (r : List ℕ). suc b ∷ r) (body-after s t)

pub body_no_zero : (s : List ℕ) → NoZero (body s)
body_no_zero [] = tt
body_no_zero (zero ∷ s) = tt
body_no_zero (suc b ∷ s) = (suc-le-suc zero-le, body_no_zero s)

pub length-body : (s : List ℕ) → length (body s) ≤ length s
length-body [] = zero-le
length-body (zero ∷ s) = zero-le
length-body (suc b ∷ s) = suc-le-suc (length-body s)

-- none of the bytes of a list without a zero leads or closes it
pub leading-none : (s t : List ℕ) → NoZero s → 0 < length s → leading (s ++ t) ≡ 0
leading-none [] t h k = absurd (not-suc-le-zero k)
leading-none (zero ∷ s) t h k = absurd (not-suc-le-zero h.0)
leading-none (suc b ∷ s) t h k = refl

-- zeros in front lead
pub leading_zeros : (z : ℕ) (s : List ℕ) → leading (replicate z 0 ++ s) ≡ z + leading s
leading_zeros zero s = sym (zero-add (leading s))
leading_zeros (suc z) s = ap suc (leading_zeros z s) ∙ sym (suc-add z (leading s))

pub closing-front : (s t : List ℕ) → NoZero s → closing (s ++ t) ≡ closing t
closing-front [] t h = refl
closing-front (zero ∷ s) t h = absurd (not-suc-le-zero h.0)
closing-front (suc b ∷ s) t h = closing-front s t h.1

pub closing_after : (s t u : List ℕ) → closing (s ++ 0 ∷ t) ≡ closing (s ++ 0 ∷ u)
closing_after [] t u = refl
closing_after (zero ∷ s) t u = refl
closing_after (suc b ∷ s) t u = closing_after s t u
