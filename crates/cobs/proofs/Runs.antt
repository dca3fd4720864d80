-- Lists without a zero, and what `run` takes. Assumes nothing.
use mathlib.Core.Path.{◌≡◌, refl, ap}
use mathlib.Core.List.{List, [], ◌∷◌, ◌++◌, nil≢cons, head-eq_of_cons-eq}
use Prim.Native.Nat.{ℕ, zero, suc, ◌≤◌, ◌<◌, zero-le, suc-le-suc}
use native.Mathlib.Nat.{le_of_suc-le-suc, not-suc-le-zero, le_refl}
use native.Mathlib.Omega.{arith}
use lib.ListN.{length, drop}
use Rattle.cobs.specs.Code.{Each, NoZero, run}

-- what holds of each number holds of each of lists joined, and the other way round
module _ (P : ℕ → Type 0) where
  pub each_append : (r s : List ℕ) → Each P r → Each P s → Each P (r ++ s)
  each_append [] s g h = h
  each_append (b ∷ r) s g h = (g.0, each_append r s g.1 h)

  pub each-front : (r s : List ℕ) → Each P (r ++ s) → Each P r
  each-front [] s h = tt
  each-front (b ∷ r) s h = (h.0, each-front r s h.1)

  pub each_back : (r s : List ℕ) → Each P (r ++ s) → Each P s
  each_back [] s h = h
  each_back (b ∷ r) s h = each_back r s h.1

pub no_zero_append : (r s : List ℕ) → NoZero r → NoZero s → NoZero (r ++ s)
no_zero_append r s g h = each_append (λ b. 0 < b) r s g h

pub no_zero_front : (r s : List ℕ) → NoZero (r ++ s) → NoZero r
no_zero_front r s h = each-front (λ b. 0 < b) r s h

pub no_zero_back : (r s : List ℕ) → NoZero (r ++ s) → NoZero s
no_zero_back r s h = each_back (λ b. 0 < b) r s h

pub no_zero_run : (n : ℕ) (m : List ℕ) → NoZero (run n m)
no_zero_run zero m = tt
no_zero_run (suc n) [] = tt
no_zero_run (suc n) (zero ∷ m) = tt
no_zero_run (suc n) (suc b ∷ m) = (suc-le-suc zero-le, no_zero_run n m)

pub length_run : (n : ℕ) (m : List ℕ) → length (run n m) ≤ n
length_run zero m = le_refl 0
length_run (suc n) [] = zero-le
length_run (suc n) (zero ∷ m) = zero-le
length_run (suc n) (suc b ∷ m) = suc-le-suc (length_run n m)

pub run-front : (n : ℕ) (m : List ℕ) → run n m ++ drop (length (run n m)) m ≡ m
run-front zero m = refl
run-front (suc n) [] = refl
run-front (suc n) (zero ∷ m) = refl
run-front (suc n) (suc b ∷ m) = ap (λ (s : List ℕ). suc b ∷ s) (run-front n m)

-- a run that a nonzero byte follows is as long as may be
pub run-stops : (n : ℕ) (m : List ℕ) (b : ℕ) (s : List ℕ) → drop (length (run n m)) m ≡ suc b ∷ s → length (run n m) ≡ n
run-stops zero m b s e = refl
run-stops (suc n) [] b s e = absurd (nil≢cons e)
run-stops (suc n) (zero ∷ m) b s e = let z : 0 ≡ suc b = head-eq_of_cons-eq e in omega arith
run-stops (suc n) (suc c ∷ m) b s e = ap suc (run-stops n m b s e)

-- a run is itself, with nothing, a zero or, where it is full, anything after it
pub run-all : (n : ℕ) (r : List ℕ) → NoZero r → length r ≤ n → run n r ≡ r
run-all zero [] h k = refl
run-all zero (b ∷ r) h k = absurd (not-suc-le-zero k)
run-all (suc n) [] h k = refl
run-all (suc n) (zero ∷ r) h k = absurd (not-suc-le-zero h.0)
run-all (suc n) (suc b ∷ r) h k = ap (λ (s : List ℕ). suc b ∷ s) (run-all n r h.1 (le_of_suc-le-suc k))

pub run_zero : (n : ℕ) (r s : List ℕ) → NoZero r → length r ≤ n → run n (r ++ 0 ∷ s) ≡ r
run_zero zero [] s h k = refl
run_zero zero (b ∷ r) s h k = absurd (not-suc-le-zero k)
run_zero (suc n) [] s h k = refl
run_zero (suc n) (zero ∷ r) s h k = absurd (not-suc-le-zero h.0)
run_zero (suc n) (suc b ∷ r) s h k = ap (λ (t : List ℕ). suc b ∷ t) (run_zero n r s h.1 (le_of_suc-le-suc k))

pub run-full : (r s : List ℕ) → NoZero r → run (length r) (r ++ s) ≡ r
run-full [] s h = refl
run-full (zero ∷ r) s h = absurd (not-suc-le-zero h.0)
run-full (suc b ∷ r) s h = ap (λ (t : List ℕ). suc b ∷ t) (run-full r s h.1)
