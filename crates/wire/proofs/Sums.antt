-- Sums over the numbers below n, and what is among the items that arrived. Assumes nothing.
use mathlib.Core.Path.{◌≡◌, refl, sym, ap, ap₂, ◌∙◌}
use mathlib.Core.Logic.{◌≢◌}
use mathlib.Core.Bool.{Bool, true, false, ◌||◌, or-true, or-false, or_assoc}
use mathlib.Core.List.{List, [], ◌∷◌, ◌++◌}
use Prim.Native.Nat.{ℕ, zero, suc, ◌+◌, ◌*◌, ◌≤◌, ◌<◌, zero-le}
use native.Mathlib.Decide.{ℕ_discrete}
use native.Mathlib.Nat.{suc-mul}
use native.Mathlib.Omega.{arith}
use lib.Dec.{eqb}
use borrow.Author.Tests.{eq-eqb, ne_eqb}
use Rattle.wire.specs.Batch.{Batch, count, sum_below, Item, particle, close, AllOf, has, has_close}

pub sum_same : (f g : ℕ → ℕ) (n : ℕ) → ((j : ℕ) → j < n → f j ≡ g j) → sum_below f n ≡ sum_below g n
unfolding sum_below
sum_same f g zero h = refl
sum_same f g (suc n) h = ap₂ ◌+◌ (sum_same f g n (λ j k. h j (omega arith))) (h n (omega arith))

-- f and g differ at i alone
pub sum-new : (f g : ℕ → ℕ) (i n : ℕ) → i < n → f i ≡ 0 → ((j : ℕ) → j ≢ i → g j ≡ f j) → sum_below g n ≡ sum_below f n + g i
unfolding sum_below
sum-new f g i zero h z same = absurd (omega arith)
sum-new f g i (suc n) h z same =
    elim (ℕ_discrete n i) [
      | yes e ↦ omega (arith, ap f e, ap g e, sum_same g f n (λ j k. same j (λ q. omega arith)))
      | no d ↦ omega (arith, same n d, sum-new f g i n (omega arith) z same)
    ]

pub sum_zero : (f : ℕ → ℕ) (n : ℕ) → ((j : ℕ) → f j ≡ 0) → sum_below f n ≡ 0
unfolding sum_below
sum_zero f zero h = refl
sum_zero f (suc n) h = omega (arith, sum_zero f n h, h n)

pub sum-most : (f : ℕ → ℕ) (most n : ℕ) → ((j : ℕ) → j < n → f j ≤ most) → sum_below f n ≤ n * most
unfolding sum_below
sum-most f most zero h = zero-le
sum-most f most (suc n) h = omega (arith, sum-most f most n (λ j k. h j (omega arith)), h n (omega arith), suc-mul n most)

-- ---- one item more

pub has-particle : (i j : ℕ) (l : List Item) → has i (l ++ particle j ∷ []) ≡ (has i l || eqb i j)
has-particle i j [] = or-false (eqb i j)
has-particle i j (particle k ∷ l) = ap (λ (t : Bool). eqb i k || t) (has-particle i j l) ∙ sym (or_assoc (eqb i k) (has i l) (eqb i j))
has-particle i j (close ∷ l) = has-particle i j l

pub has-close : (i : ℕ) (l : List Item) → has i (l ++ close ∷ []) ≡ has i l
has-close i [] = refl
has-close i (particle k ∷ l) = ap (λ (t : Bool). eqb i k || t) (has-close i l)
has-close i (close ∷ l) = has-close i l

pub has_close-particle : (j : ℕ) (l : List Item) → has_close (l ++ particle j ∷ []) ≡ has_close l
has_close-particle j [] = refl
has_close-particle j (particle k ∷ l) = has_close-particle j l
has_close-particle j (close ∷ l) = refl

pub has_close-close : (l : List Item) → has_close (l ++ close ∷ []) ≡ true
has_close-close [] = refl
has_close-close (particle k ∷ l) = has_close-close l
has_close-close (close ∷ l) = refl

-- the particle itself, and every other
pub has-itself : (j : ℕ) (l : List Item) → has j (l ++ particle j ∷ []) ≡ true
has-itself j l = has-particle j j l ∙ ap (λ (t : Bool). has j l || t) (eq-eqb j j refl) ∙ or-true (has j l)

pub has_other : (i j : ℕ) (l : List Item) → i ≢ j → has i (l ++ particle j ∷ []) ≡ has i l
has_other i j l n = has-particle i j l ∙ ap (λ (t : Bool). has i l || t) (ne_eqb i j n) ∙ or-false (has i l)

-- one that has arrived before changes nothing
pub has-again : (j : ℕ) (l : List Item) → has j l ≡ true → (i : ℕ) → has i (l ++ particle j ∷ []) ≡ has i l
has-again j l h i =
    elim (ℕ_discrete i j) [
      | yes e ↦ ap (λ (x : ℕ). has x (l ++ particle j ∷ [])) e ∙ has-itself j l ∙ sym (ap (λ (x : ℕ). has x l) e ∙ h)
      | no d ↦ has_other i j l d
    ]

-- none that is not of the batch
pub has-none : (b : Batch) (l : List Item) → AllOf b l → (i : ℕ) → count b ≤ i → has i l ≡ false
has-none b [] h i k = refl
has-none b (particle j ∷ l) h i k = rw (ne_eqb i j (λ e. omega (arith, h.0))) (has-none b l h.1 i k)
has-none b (close ∷ l) h i k = has-none b l h.1 i k

pub all_of_append : (b : Batch) (l m : List Item) → AllOf b l → AllOf b m → AllOf b (l ++ m)
all_of_append b [] m h k = k
all_of_append b (item ∷ l) m h k = (h.0, all_of_append b l m h.1 k)
