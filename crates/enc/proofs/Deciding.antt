-- A test and what it decides; a number that is another or not, and below another or not. Assumes nothing.
use mathlib.Core.Path.{◌≡◌, refl, sym}
use mathlib.Core.Bool.{Bool, true, false, true≢false, ◌||◌}
use Prim.Native.Nat.{ℕ, ◌≤◌, ◌<◌}
use native.Mathlib.Decide.{dec_lt}
use native.Mathlib.Omega.{arith}
use lib.Dec.{eqb}
use borrow.Author.Tests.{eqb-true, eqb-false}

pub by_eq {ℓ} : {X : Type ℓ} (a b : ℕ) → (a ≡ b → X) → ((a ≡ b → ⊥) → X) → X
by_eq {X = X} a b f g = go (eqb a b) refl
  where
    go : (t : Bool) → eqb a b ≡ t → X
    go true e = f (eqb-true a b e)
    go false e = g (eqb-false a b e)

pub by_lt {ℓ} : {X : Type ℓ} (a b : ℕ) → (a < b → X) → (b ≤ a → X) → X
by_lt a b f g = elim (dec_lt a b) [ yes h ↦ f h | no h ↦ g (omega arith) ]

pub neither : (s t : Bool) → s || t ≡ false → (s ≡ false) × (t ≡ false)
neither true t e = absurd (true≢false e)
neither false t e = (refl, e)

-- The test is false exactly if P holds.
pub record Refutes (t : Bool) (P : Type 0) : Type 0 where
  pub holds : t ≡ false → P
  pub none : P → t ≡ false

-- a second test with the same meaning is the same
pub same_test : {t : Bool} {P : Type 0} → Refutes t P → (s : Bool) → (s ≡ true → P → ⊥) → (s ≡ false → P) → s ≡ t
same_test {t} r true bad good = go t refl
  where
    go : (u : Bool) → t ≡ u → true ≡ t
    go true e = sym e
    go false e = absurd (bad refl (r.holds e))
same_test r false bad good = sym (r.none (good refl))

-- where P fails, the test is true
pub refuted : {t : Bool} {P : Type 0} → Refutes t P → (P → ⊥) → true ≡ t
refuted r bad = same_test r true (λ e. bad) (λ e. absurd (true≢false e))
