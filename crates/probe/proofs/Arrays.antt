-- The front of a list laid over another, as far as that goes. Assumes nothing.
use mathlib.Core.Path.{◌≡◌, refl, ap}
use mathlib.Core.List.{List, [], ◌∷◌, ◌++◌}
use Prim.Native.Nat.{ℕ, zero, suc, ◌≤◌, ◌<◌}
use native.Mathlib.Omega.{arith}
use lib.ListN.{length, take, drop}
use Rattle.cobs.specs.Code.{over}

pub over-front : (s d : List ℕ) (n : ℕ) → n ≤ length s → n ≤ length d → (n < length s → length d ≤ n) → take n s ++ drop n d ≡ over s d
over-front [] d zero h k l = refl
over-front [] d (suc n) h k l = absurd (omega arith)
over-front (b ∷ s) [] zero h k l = refl
over-front (b ∷ s) [] (suc n) h k l = absurd (omega arith)
over-front (b ∷ s) (x ∷ d) zero h k l = absurd (omega (arith, l (omega arith)))
over-front (b ∷ s) (x ∷ d) (suc n) h k l =
    ap (λ (t : List ℕ). b ∷ t) (over-front s d n (omega arith) (omega arith) (λ m. omega (arith, l (omega arith))))
