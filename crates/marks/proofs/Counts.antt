-- Laws of `count_below`, for any test: how many of the numbers below n pass it. Assumes nothing.
use mathlib.Core.Path.{◌≡◌, refl, sym, ap, ap₂, ◌∙◌}
use mathlib.Core.Logic.{◌≢◌}
use mathlib.Core.Bool.{Bool, true, false, cond, not}
use Prim.Native.Nat.{ℕ, zero, suc, ◌+◌, ◌<◌}
use native.Mathlib.Nat.{add-zero, add-suc, add_assoc}
use native.Mathlib.Decide.{ℕ_discrete}
use native.Mathlib.Omega.{arith}
use borrow.Author.Tests.{not-false}
use Rattle.marks.specs.Marks.{count_below}

-- What one number adds to a count.
abbrev one : Bool → ℕ
one b = cond b 1 0

failed : (b : Bool) → one b ≡ 0 → b ≡ false
failed true e = absurd (omega arith)
failed false e = refl

either : (b : Bool) → one b + one (not b) ≡ 1
either true = refl
either false = refl

-- Tests that agree below n count alike.
pub count_same : (p q : ℕ → Bool) (n : ℕ) → ((j : ℕ) → j < n → p j ≡ q j) → count_below p n ≡ count_below q n
unfolding count_below
count_same p q zero h = refl
count_same p q (suc n) h = ap₂ ◌+◌ (count_same p q n (λ j k. h j (omega arith))) (ap one (h n (omega arith)))

-- The numbers below n, and the m numbers from n on.
pub count_add : (p : ℕ → Bool) (n m : ℕ) → count_below p (n + m) ≡ count_below p n + count_below (λ s. p (n + s)) m
unfolding count_below
count_add p n zero = ap (count_below p) (add-zero n) ∙ sym (add-zero (count_below p n))
count_add p n (suc m) = ap (count_below p) (add-suc n m) ∙ ap (λ (x : ℕ). x + one (p (n + m))) (count_add p n m) ∙ add_assoc _ _ _

-- Each number below n passes or fails.
pub count-both : (p : ℕ → Bool) (n : ℕ) → count_below p n + count_below (λ j. not (p j)) n ≡ n
unfolding count_below
count-both p zero = refl
count-both p (suc n) = omega (arith, count-both p n, either (p n))

-- One number more passes q than p.
pub count-new : (p q : ℕ → Bool) (i n : ℕ) → i < n → p i ≡ false → q i ≡ true → ((j : ℕ) → j ≢ i → q j ≡ p j)
    → count_below q n ≡ count_below p n + 1
unfolding count_below
count-new p q i zero h fails passes same = absurd (omega arith)
count-new p q i (suc n) h fails passes same =
    elim (ℕ_discrete n i) [
      | yes e ↦ omega (arith, ap one (ap p e ∙ fails), ap one (ap q e ∙ passes), count_same q p n (λ j k. same j (λ z. omega arith)))
      | no d ↦ omega (arith, ap one (same n d), count-new p q i n (omega arith) fails passes same)
    ]

-- None passes: the count is 0, and conversely.
pub count_none : (p : ℕ → Bool) (n : ℕ) → ((j : ℕ) → j < n → p j ≡ false) → count_below p n ≡ 0
unfolding count_below
count_none p zero h = refl
count_none p (suc n) h = omega (arith, count_none p n (λ j k. h j (omega arith)), ap one (h n (omega arith)))

none-counted : (p : ℕ → Bool) (n : ℕ) → count_below p n ≡ 0 → (j : ℕ) → j < n → p j ≡ false
unfolding count_below
none-counted p zero e j h = absurd (omega arith)
none-counted p (suc n) e j h =
    elim (ℕ_discrete j n) [ yes q ↦ ap p q ∙ failed (p n) (omega arith) | no d ↦ none-counted p n (omega arith) j (omega arith) ]

-- All pass: the count is n, and conversely.
pub count-all : (p : ℕ → Bool) (n : ℕ) → ((j : ℕ) → j < n → p j ≡ true) → count_below p n ≡ n
count-all p n h = omega (arith, count-both p n, count_none (λ j. not (p j)) n (λ j k. ap not (h j k)))

pub all-counted : (p : ℕ → Bool) (n : ℕ) → count_below p n ≡ n → (j : ℕ) → j < n → p j ≡ true
all-counted p n e j h =
    not-false (p j) (none-counted (λ j. not (p j)) n (omega (arith, count-both p n)) j h)
