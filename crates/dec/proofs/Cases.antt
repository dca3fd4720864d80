-- Case distinctions that keep their equation, and a list from an index on. Assumes nothing.
use mathlib.Core.Path.{◌≡◌, refl}
use mathlib.Core.Bool.{Bool, true, false}
use mathlib.Core.List.{List, ◌∷◌}
use Prim.Native.Nat.{ℕ, ◌+◌, ◌<◌}
use native.Mathlib.Numerals.{add-one}
use lib.ListN.{length, get_or, drop}
use lib.Seq.{drop-cons}

pub by_bool {ℓ} : {X : Type ℓ} (t : Bool) → (t ≡ true → X) → (t ≡ false → X) → X
by_bool true f g = f refl
by_bool false f g = g refl

-- one more byte, at the code's `i + 1`
pub drop-next : (p : List ℕ) (i : ℕ) → i < length p → drop i p ≡ get_or p i 0 ∷ drop (i + 1) p
drop-next p i h = rw (add-one, drop-cons p i 0)
