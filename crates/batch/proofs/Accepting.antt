-- A frame, one law for each way through `accept`. Assumes nothing.
use Rattle.std.specs.Prelude.{Result, Ok, Err, is_err, ⊤, if◌then◌else◌}
use mathlib.Core.Path.{◌≡◌, refl, sym, ap, ◌∙◌}
use mathlib.Core.Bool.{Bool, true, false, true≢false}
use mathlib.Core.List.{List}
use Prim.Native.Nat.{ℕ, ◌-◌, ◌/◌}
use native.Mathlib.Omega.{arith}
use lib.ListN.{length}
use Rattle.record.specs.Frame.{is_bad_length}
use Rattle.batch.specs.State.{is_bad, told_stand, stand_told}
use Rattle.batch.specs.Frame.{told_refusal, told, Outcome, refused, taken, take_all, outcome, next_after, table_after, accept_told, accept_next, accept_table}
use Rattle.batch.specs.Helpers.{rest, answer_by}
use Rattle.batch.specs.declared.Receiver.{Receiver}
use Rattle.batch.specs.declared.Refusal.{Refusal}
use Rattle.batch.specs.declared.Standing.{Standing}
use Rattle.batch.specs.declared.Refusal.TheVariants.{BadState, BadLength}
use Rattle.batch.proofs.Taking.{Leaves}

-- ---- the whole frame

module _ (r : Receiver) (t f : List ℕ) (b : Bool) (eb : b ≡ is_bad r (length t)) where
  pub bad-state : b ≡ true → outcome r t f ≡ refused BadState
  unfolding outcome
  bad-state h = simp (← eb, h)

  module _ (hb : b ≡ false) (l : Bool) (el : l ≡ is_bad_length 16 240 (length f)) where
    at_length : outcome r t f ≡ (if l then refused BadLength else take_all (length f / 16) 0 r t f)
    unfolding outcome
    at_length = simp (← eb, hb, ← el)

    pub bad-length : l ≡ true → outcome r t f ≡ refused BadLength
    bad-length h = at_length ∙ rw h refl

    pub from-rest : l ≡ false → outcome r t f ≡ rest f 0 r t
    from-rest h = at_length ∙ rw h (ap (λ (m : ℕ). take_all m 0 r t f) {x = length f / 16} {y = (length f - 0) / 16} (omega arith))

-- ---- what is answered

-- An answer, a state and a table that `accept` gives.
abbrev pub Accepts : Receiver → (t f : List ℕ) → Result Standing Refusal → Receiver → (u : List ℕ) → Type 0
Accepts r t f a n u = (told a ≡ accept_told r t f) × ((n ≡ accept_next r t f) × (u ≡ accept_table r t f))

module _ (r : Receiver) (t f : List ℕ) (x : Result ⊤ Refusal) (n : Receiver) (u : List ℕ) (z : Leaves (outcome r t f) r t x n u) where
  as_taken : (o : Outcome) → outcome r t f ≡ o → x ≡ Ok tt → (s : Standing) → told_stand s ≡ stand_told n → Accepts r t f (Ok s) n u
  unfolding accept_told accept_next accept_table
  as_taken (refused a) e q s h = absurd (true≢false (sym (ap is_err (sym q ∙ z.0 ∙ ap answer_by e))))
  as_taken (taken m w) e q s h =
      let same : n ≡ m = (rw q at z.1.0) ∙ ap (next_after r) e in
      rw e (h ∙ ap stand_told same, (same, z.1.1 ∙ ap (table_after t) e))

  pub accepts : x ≡ Ok tt → (s : Standing) → told_stand s ≡ stand_told n → Accepts r t f (Ok s) n u
  accepts q s h = as_taken (outcome r t f) refl q s h

  as_refused : (o : Outcome) → outcome r t f ≡ o → (a : Refusal) → x ≡ Err a → Accepts r t f (Err a) r u
  unfolding accept_told accept_next accept_table
  as_refused (refused b) e a q =
      let k : ◌≡◌ {A = Result ⊤ Refusal} (Err a) (Err b) = sym q ∙ z.0 ∙ ap answer_by e in
      let same : a ≡ b = cc in
      rw e (ap told_refusal same, (refl, z.1.1 ∙ ap (table_after t) e))
  as_refused (taken m w) e a q = absurd (true≢false (ap is_err (sym q ∙ z.0 ∙ ap answer_by e)))

  pub refuses : (a : Refusal) → x ≡ Err a → Accepts r t f (Err a) r u
  refuses a q = as_refused (outcome r t f) refl a q
