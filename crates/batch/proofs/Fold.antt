-- Induction over the records of a frame that is taken. Assumes nothing.
use Rattle.std.specs.Prelude.{Ok, Err}
use mathlib.Core.Path.{◌≡◌, refl, subst}
use mathlib.Core.List.{List}
use Prim.Native.Nat.{ℕ, zero, suc}
use native.Mathlib.Omega.{arith}
use lib.ListN.{drop}
use Rattle.batch.specs.Verdict.{Verdict, verdict, after, stored}
use Rattle.batch.specs.Frame.{refused, taken, on_verdict, take_all}
use Rattle.batch.specs.declared.Receiver.{Receiver}
use Rattle.batch.specs.declared.Refusal.{Refusal}
use Rattle.batch.specs.declared.judge.Effect.{Effect}

pub not_taken : {a : Refusal} {r : Receiver} {t : List ℕ} → refused a ≡ taken r t → ⊥
not_taken e = let z : ◌≡◌ {A = ℕ} 0 1 = cc in omega arith

-- What holds of n records from the state, the table and the bytes that they start with, where all are taken.
module _ (P : (n : ℕ) → Receiver → (t s : List ℕ) → Receiver → (t' : List ℕ) → Type 0)
    (end : (r : Receiver) (t s : List ℕ) → P 0 r t s r t)
    (more : (n k : ℕ) (r : Receiver) (t s : List ℕ) (e : Effect) (r' : Receiver) (t' : List ℕ) → verdict k r t s ≡ Ok e
    → P n (after e r) (stored e t s) (drop 16 s) r' t' → P (suc n) r t s r' t') where
  turn : (n k : ℕ) (r : Receiver) (t s : List ℕ) (r' : Receiver) (t' : List ℕ) (v : Verdict) → verdict k r t s ≡ v
      → ((e : Effect) → take_all n (suc k) (after e r) (stored e t s) (drop 16 s) ≡ taken r' t' → P n (after e r) (stored e t s) (drop 16 s) r' t')
      → on_verdict v (λ e. take_all n (suc k) (after e r) (stored e t s) (drop 16 s)) ≡ taken r' t' → P (suc n) r t s r' t'
  turn n k r t s r' t' (Ok e) q ih h = more n k r t s e r' t' q (ih e h)
  turn n k r t s r' t' (Err a) q ih h = absurd (not_taken h)

  pub by_records : (n k : ℕ) (r : Receiver) (t s : List ℕ) (r' : Receiver) (t' : List ℕ) → take_all n k r t s ≡ taken r' t' → P n r t s r' t'
  unfolding take_all
  by_records zero k r t s r' t' h =
      let a : r ≡ r' = cc in
      let b : t ≡ t' = cc in
      subst (λ (x : Receiver). P 0 r t s x t') a (subst (λ (x : List ℕ). P 0 r t s r x) b (end r t s))
  by_records (suc n) k r t s r' t' h =
      turn n k r t s r' t' (verdict k r t s) refl
      (λ e. by_records n (suc k) (after e r) (stored e t s) (drop 16 s) r' t') h
