-- The table over records of one batch: what has arrived stands in its slots, and no other slot was written. Assumes nothing.
use mathlib.Core.Path.{◌≡◌, refl, sym, ap, ◌∙◌}
use mathlib.Core.Logic.{◌≢◌}
use mathlib.Core.Bool.{true, false, true≢false}
use mathlib.Core.List.{List, [], ◌∷◌, ◌++◌}
use Prim.Native.Nat.{ℕ, ◌+◌, ◌*◌, ◌≤◌, ◌<◌}
use native.Mathlib.Decide.{ℕ_discrete}
use native.Mathlib.Omega.{arith}
use lib.ListN.{length, length-append}
use lib.Seq.{take_at}
use Rattle.record.specs.Record.{written_bytes}
use Rattle.batch.specs.State.{slot}
use Rattle.batch.specs.Verdict.{stored}
use Rattle.batch.specs.declared.judge.Effect.TheVariants as effect
use Rattle.batch.proofs.Records.{store-slot, store-other-slot}
use Rattle.wire.specs.Batch.{Batch, count, Item, particle, close, record_of, has}
use Rattle.wire.proofs.Sums.{has-itself, has_other, has-again, has-close}

module _ (b : Batch) where
  abbrev bytes : (i : ℕ) → List ℕ
  bytes i = written_bytes 0 (record_of b (particle i))

  -- the table was t₀ when nothing had arrived
  pub record Filled (t₀ : List ℕ) (l : List Item) (t : List ℕ) : Type 0 where
    pub arrived : (i : ℕ) → has i l ≡ true → slot t i ≡ bytes i
    pub others : (i : ℕ) → has i l ≡ false → slot t i ≡ slot t₀ i

  pub none_filled : (t : List ℕ) → Filled t [] t
  none_filled t = record { arrived = λ i e. absurd (true≢false (sym e)); others = λ i e. refl }

  module _ (t₀ : List ℕ) (l : List Item) (t : List ℕ) (f : Filled t₀ l t) where
    -- where nothing new has arrived
    pub filled-same : (m : List Item) → ((i : ℕ) → has i m ≡ has i l) → Filled t₀ m t
    filled-same m e = record { arrived = λ i h. f.arrived i (sym (e i) ∙ h); others = λ i h. f.others i (sym (e i) ∙ h) }

    pub filled-again : (i : ℕ) → has i l ≡ true → Filled t₀ (l ++ particle i ∷ []) t
    filled-again i e = filled-same (l ++ particle i ∷ []) (has-again i l e)

    pub filled-close : Filled t₀ (l ++ close ∷ []) t
    filled-close = filled-same (l ++ close ∷ []) (λ i. has-close i l)

    -- a new particle: its slot and no other
    pub filled-new : (i w : ℕ) (s : List ℕ) → i < count b → count b * 16 ≤ length t → length (bytes i) ≡ 16
        → Filled t₀ (l ++ particle i ∷ []) (stored (effect.Store i w) t (bytes i ++ s))
    filled-new i w s q room long =
        let fits : i * 16 + 16 ≤ length t = omega arith in
        let enough : 16 ≤ length (bytes i ++ s) = omega (arith, length-append (bytes i) s, long) in
        let other : (j : ℕ) → j ≢ i → slot (stored (effect.Store i w) t (bytes i ++ s)) j ≡ slot t j =
        λ j d. store-other-slot i w j t (bytes i ++ s) fits enough d in
        record {
          arrived = λ j h.
              elim (ℕ_discrete j i) [
                | yes e ↦
                    ap (slot (stored (effect.Store i w) t (bytes i ++ s))) e ∙ store-slot i w t (bytes i ++ s) fits enough
                    ∙ take_at (bytes i) s 16 long ∙ sym (ap bytes e)
                | no d ↦ other j d ∙ f.arrived j (sym (has_other j i l d) ∙ h)
              ];
          others = λ j h.
              elim (ℕ_discrete j i) [
                | yes e ↦ absurd (true≢false (sym (has-itself i l) ∙ sym (ap (λ (x : ℕ). has x (l ++ particle i ∷ [])) e) ∙ h))
                | no d ↦ other j d ∙ f.others j (sym (has_other j i l d) ∙ h)
              ];
        }
