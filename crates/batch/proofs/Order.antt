-- The marks after a frame are those before it and its particles' indices: the order of its records does not matter. Assumes nothing.
use mathlib.Core.Path.{◌≡◌, refl, sym, ap, ◌∙◌}
use mathlib.Core.Bool.{Bool, true, false, ◌||◌, or-true, or-false, or_assoc}
use mathlib.Core.List.{List}
use Prim.Native.Nat.{ℕ, zero, suc, ◌<◌}
use native.Mathlib.Omega.{arith}
use lib.Dec.{eqb}
use lib.ListN.{length, drop}
use borrow.Author.Tests.{eqb-true, eqb-false}
use Rattle.marks.specs.Marks.{marked}
use Rattle.record.specs.Record.{read_of}
use Rattle.record.specs.declared.Record.TheVariants as kind
use Rattle.std.specs.Prelude.{Result, Ok, Err}
use Rattle.record.specs.declared.BadRecord.{BadRecord}
use Rattle.record.specs.declared.Record.{Record}
use Rattle.batch.specs.Verdict.{after}
use Rattle.batch.specs.Frame.{taken, take_all}
use Rattle.batch.specs.declared.Receiver.{Receiver}
use Rattle.batch.specs.declared.judge.Effect.{Effect}
use Rattle.batch.specs.declared.judge.Effect.TheVariants.{Store}
use Rattle.batch.proofs.Asked.{Asked, new, known, first, again, asked}
use Rattle.batch.proofs.Fold.{by_records}
use Rattle.batch.proofs.Good.{Good, good-after}
use Rattle.batch.proofs.Records.{store-marks, store-others, close-marks, repeat_state}

-- The record is a particle of index j.
abbrev pub is_index : Result Record BadRecord → (j : ℕ) → Bool
is_index (Ok (kind.Particle batch i x y z w)) j = eqb j i
is_index (Ok (kind.Close batch n t)) j = false
is_index (Err _) j = false

-- Among the n records that s starts with is a particle of index j.
abbrev pub among : (n : ℕ) (s : List ℕ) (j : ℕ) → Bool
among zero s j = false
among (suc n) s j = is_index (read_of 0 s) j || among n (drop 16 s) j

-- marking index i, or finding it marked
with-new : (r : Receiver) (i w j : ℕ) → length r.marks ≡ 64 → i < 4096 → marked (after (Store i w) r).marks j ≡ (marked r.marks j || eqb j i)
with-new r i w j l h = go (eqb j i) refl
  where
    go : (b : Bool) → eqb j i ≡ b → marked (after (Store i w) r).marks j ≡ (marked r.marks j || b)
    go true e = ap (marked (after (Store i w) r).marks) (eqb-true j i e) ∙ store-marks r i w l h ∙ sym (or-true (marked r.marks j))
    go false e = store-others r i w j (eqb-false j i e) ∙ sym (or-false (marked r.marks j))

with-known : (r : Receiver) (i j : ℕ) → marked r.marks i ≡ true → marked r.marks j ≡ (marked r.marks j || eqb j i)
with-known r i j h = go (eqb j i) refl
  where
    go : (b : Bool) → eqb j i ≡ b → marked r.marks j ≡ (marked r.marks j || b)
    go true e = ap (marked r.marks) (eqb-true j i e) ∙ h ∙ sym (or-true (marked r.marks j))
    go false e = sym (or-false (marked r.marks j))

marked-after : (r : Receiver) (s : List ℕ) {e : Effect} (m j : ℕ) → Good r m → Asked r s e
    → marked (after e r).marks j ≡ (marked r.marks j || is_index (read_of 0 s) j)
marked-after r s m j g (new batch i x y z w q in_slots in_limit free) =
    let few = g.few in
    rw q (with-new r i w j g.words (omega arith))
marked-after r s m j g (known batch i x y z w q in_slots set) = rw (q, repeat_state r) (with-known r i j set)
marked-after r s m j g (first batch c q in_slots fresh free) =
    rw (q, or-false (marked r.marks j)) (ap (λ (ws : List ℕ). marked ws j) (close-marks r c))
marked-after r s m j g (again batch c q same) = rw (q, repeat_state r, or-false (marked r.marks j))

pub marks-after : (n k : ℕ) (r : Receiver) (t s : List ℕ) (r' : Receiver) (t' : List ℕ) (m : ℕ) → take_all n k r t s ≡ taken r' t' → Good r m → (j : ℕ)
    → marked r'.marks j ≡ (marked r.marks j || among n s j)
marks-after n k r t s r' t' m e =
    by_records (λ n r t s r' t'. Good r m → (j : ℕ) → marked r'.marks j ≡ (marked r.marks j || among n s j))
    (λ r t s g j. sym (or-false (marked r.marks j)))
    (λ n k r t s e r' t' q ih g j.
    ih (good-after k r t s e m g q) j
    ∙ ap (λ (b : Bool). b || among n (drop 16 s) j) (marked-after r s m j g (asked k r t s e q))
    ∙ or_assoc (marked r.marks j) (is_index (read_of 0 s) j) (among n (drop 16 s) j))
    n k r t s r' t' e

-- two frames with the same particles in them, in any order, any of them any number of times
pub any_order : (r : Receiver) (m : ℕ) → Good r m → (n₁ n₂ k₁ k₂ : ℕ) (t₁ t₂ s₁ s₂ : List ℕ) (r₁ r₂ : Receiver) (u₁ u₂ : List ℕ)
    → take_all n₁ k₁ r t₁ s₁ ≡ taken r₁ u₁ → take_all n₂ k₂ r t₂ s₂ ≡ taken r₂ u₂
    → ((j : ℕ) → among n₁ s₁ j ≡ among n₂ s₂ j) → (j : ℕ) → marked r₁.marks j ≡ marked r₂.marks j
any_order r m g n₁ n₂ k₁ k₂ t₁ t₂ s₁ s₂ r₁ r₂ u₁ u₂ e₁ e₂ same j =
    marks-after n₁ k₁ r t₁ s₁ r₁ u₁ m e₁ g j
    ∙ ap (λ (b : Bool). marked r.marks j || b) (same j)
    ∙ sym (marks-after n₂ k₂ r t₂ s₂ r₂ u₂ m e₂ g j)
