-- The records of a frame from some place on, one law for each way through `take`. Assumes nothing.
use Rattle.std.specs.Prelude.{Result, Ok, Err, is_err, OnOk, ⊤}
use mathlib.Core.Path.{◌≡◌, refl, sym, ap, ap₂, ◌∙◌}
use mathlib.Core.Bool.{true, false, true≢false}
use mathlib.Core.List.{List}
use Prim.Native.Nat.{ℕ, suc, ◌+◌, ◌-◌, ◌/◌, ◌%◌, ◌<◌}
use native.Mathlib.Omega.{arith}
use lib.ListN.{length, drop}
use lib.Seq.{drop-drop}
use Rattle.record.specs.Record.{read_of}
use Rattle.batch.specs.State.{is_bad}
use Rattle.batch.specs.Verdict.{Verdict, on_read, verdict, after, stored}
use Rattle.batch.specs.Frame.{Outcome, refused, taken, on_verdict, take_all, next_after, table_after}
use Rattle.batch.specs.Helpers.{kept_for, rest, answer_by}
use Rattle.batch.specs.declared.Receiver.{Receiver}
use Rattle.batch.specs.declared.Refusal.{Refusal}
use Rattle.batch.specs.declared.judge.Effect.{Effect}
use Rattle.batch.proofs.Effects.{undone}
use Rattle.batch.proofs.Good.{Good, good, good-after}

-- ---- no record is left

pub none : (f : List ℕ) (at : ℕ) (r : Receiver) (t : List ℕ) → at ≡ length f → rest f at r t ≡ taken r t
unfolding take_all
none f at r t e = ap (λ (n : ℕ). take_all n (at / 16) r t (drop at f)) {x = (length f - at) / 16} {y = 0} (omega arith)

-- ---- one record, and the rest

pub turn : (f : List ℕ) (at : ℕ) (r : Receiver) (t : List ℕ) → at < length f → at % 16 ≡ 0 → length f % 16 ≡ 0
    → rest f at r t ≡ on_verdict (verdict (at / 16) r t (drop at f)) (λ e. rest f (at + 16) (after e r) (stored e t (drop at f)))
unfolding take_all
turn f at r t h a l =
    let n : (length f - at) / 16 ≡ suc ((length f - (at + 16)) / 16) = omega arith in
    let k : suc (at / 16) ≡ (at + 16) / 16 = omega arith in
    ap (λ (m : ℕ). take_all m (at / 16) r t (drop at f)) n
    ∙ ap₂
    (λ (j : ℕ) (u : List ℕ).
    on_verdict (verdict (at / 16) r t (drop at f)) (λ e. take_all ((length f - (at + 16)) / 16) j (after e r) (stored e t (drop at f)) u))
    k (drop-drop 16 at f)

-- the record at `at` was judged
module _ (f : List ℕ) (at : ℕ) (r : Receiver) (t : List ℕ) (h : at < length f) (m : at % 16 ≡ 0) (l : length f % 16 ≡ 0)
    (v : Verdict) (ev : v ≡ on_read (at / 16) r (read_of 0 (drop at f))) where
  judged : verdict (at / 16) r t (drop at f) ≡ v
  unfolding verdict
  judged = sym ev

  -- and refused
  pub refuses : (a : Refusal) → v ≡ Err a → rest f at r t ≡ refused a
  refuses a q = turn f at r t h m l ∙ rw (judged, q)

  -- or taken
  pub allows : (e : Effect) → v ≡ Ok e → verdict (at / 16) r t (drop at f) ≡ Ok e
  allows e q = judged ∙ q

  pub goes : (e : Effect) → v ≡ Ok e → rest f at r t ≡ rest f (at + 16) (after e r) (stored e t (drop at f))
  goes e q = turn f at r t h m l ∙ rw (judged, q)

-- ---- what is handed back

-- An answer, a state and a table that an outcome leaves, from a state and a table before it. The state of a refusal is any.
abbrev pub Leaves : Outcome → Receiver → (t : List ℕ) → Result ⊤ Refusal → Receiver → (u : List ℕ) → Type 0
Leaves o r t x n u = (x ≡ answer_by o) × (OnOk x (n ≡ next_after r o) × (u ≡ table_after t o))

pub leaves-taken : (o : Outcome) (r : Receiver) (t : List ℕ) → o ≡ taken r t → Leaves o r t (Ok tt) r t
leaves-taken o r t e = rw e (refl, (refl, refl))

pub leaves-refused : (o : Outcome) (r n : Receiver) (t : List ℕ) (a : Refusal) → o ≡ refused a → Leaves o r t (Err a) n t
leaves-refused o r n t a e = rw e (refl, (tt, refl))

-- the rest was refused: what the record was stored over is put back
rest-refused : (p : Outcome) (r q n : Receiver) (t s : List ℕ) (e : Effect) (x : Result ⊤ Refusal) (u b w : List ℕ) → is_err x ≡ true
    → Leaves p q (stored e t s) x n u → b ≡ kept_for e t → w ≡ stored e u b → Leaves p r t x n w
rest-refused (refused a) r q n t s e x u b w h z eb ew =
    (z.0, (rw z.0 tt, ew ∙ ap₂ (stored e) z.1.1 eb ∙ undone e t s))
rest-refused (taken m v) r q n t s e x u b w h z eb ew = absurd (true≢false (sym h ∙ ap is_err z.0))

-- or taken
rest-taken : (p : Outcome) (r q n : Receiver) (t t₁ : List ℕ) (x : Result ⊤ Refusal) (u : List ℕ) → is_err x ≡ false
    → Leaves p q t₁ x n u → Leaves p r t x n u
rest-taken (refused a) r q n t t₁ x u h z = absurd (true≢false (sym (ap is_err z.0) ∙ h))
rest-taken (taken m v) r q n t t₁ x u h z = z

-- ---- a record stored, and the rest

-- The record at `at` is taken, from a good state.
module _ (r : Receiver) (t f : List ℕ) (at : ℕ) (h : at < length f) (m : at % 16 ≡ 0) (l : length f % 16 ≡ 0)
    (v : Verdict) (ev : v ≡ on_read (at / 16) r (read_of 0 (drop at f))) (e : Effect) (q : v ≡ Ok e) where
  pub stored-good : (is_bad r (length t) ≡ false) × (length r.marks ≡ 64) → Good (after e r) (length t)
  stored-good g =
      good-after _ r t (drop at f) e (length t) (good r (length t) g.1 g.0) (allows f at r t h m l v ev e q)

  -- The rest, from the state and the table as the code has them.
  module _ (y : Receiver) (w : List ℕ) (ey : y ≡ after e r) (ew : w ≡ stored e t (drop at f))
      (x : Result ⊤ Refusal) (n : Receiver) (u : List ℕ) (z : Leaves (rest f (at + 16) y w) y w x n u) where
    leaves : Leaves (rest f (at + 16) (after e r) (stored e t (drop at f))) (after e r) (stored e t (drop at f)) x n u
    leaves = rw (← ey, ← ew) z

    -- it is refused: what the record was stored over is put back
    pub refused-back : is_err x ≡ true → (b k : List ℕ) → b ≡ kept_for e t → k ≡ stored e u b → Leaves (rest f at r t) r t x n k
    refused-back i b k eb ek = rw (goes f at r t h m l v ev e q) (rest-refused _ r (after e r) n t (drop at f) e x u b k i leaves eb ek)

    -- or taken
    pub taken-on : is_err x ≡ false → Leaves (rest f at r t) r t x n u
    taken-on i = rw (goes f at r t h m l v ev e q) (rest-taken _ r (after e r) n t (stored e t (drop at f)) x u i leaves)
