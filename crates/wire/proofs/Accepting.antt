-- The receiver as what takes the frames: a good state stays good over any frame, its answer is never More, and neither its
-- answer nor its state depends on the table's bytes. Assumes nothing.
use Rattle.std.specs.Prelude.{Ok, Err}
use mathlib.Core.Path.{◌≡◌, refl, sym, ap, ap₂, ◌∙◌}
use mathlib.Core.Logic.{◌≢◌}
use mathlib.Core.Bool.{false}
use mathlib.Core.List.{List}
use Prim.Native.Nat.{ℕ, zero, suc, ◌/◌, ◌≤◌}
use native.Mathlib.Omega.{arith}
use lib.ListN.{length, drop}
use Rattle.cobs.specs.Answers.{more}
use Rattle.record.specs.Frame.{is_bad_length}
use Rattle.batch.specs.State.{marked_in, is_bad, stand_told}
use Rattle.batch.specs.Verdict.{Verdict, verdict, after, stored}
use Rattle.batch.specs.Frame.{told_refusal, Outcome, refused, taken, on_verdict, take_all, outcome, outcome_told, next_after, table_after, accept_told, accept_next, accept_table}
use Rattle.batch.specs.declared.Receiver.{Receiver}
use Rattle.batch.specs.declared.Refusal.{Refusal}
use Rattle.batch.specs.declared.Refusal.TheVariants.{BadState, BadLength, BadRecord, Stale, Ahead, NoRoom, BeyondClose, Conflict}
use Rattle.batch.specs.declared.judge.Effect.{Effect}
use Rattle.batch.proofs.Good.{Good, not_bad}
use Rattle.batch.proofs.Kept.{accept-length, accept-good}
use Rattle.batch.proofs.Effects.{stored-length}
use Rattle.batch.proofs.Sentences.{stands_from, refused_unchanged}
use Rattle.dec.proofs.Cases.{by_bool}
use Rattle.wire.specs.Receive.{End, accepting}

-- ---- a good state stays good

unfoldable pub Fine : End → Type 0
Fine e = Good e.receiver (length e.table)

pub fit : (e : End) → Fine e → accepting.is_bad e ≡ false
unfolding Fine
fit e g = not_bad e.receiver (length e.table) g

pub keeps : (e : End) (f : List ℕ) → Fine e → Fine (accepting.after e f)
unfolding Fine
keeps e f g =
    rw (accept-length e.receiver e.table f) (accept-good e.receiver e.table f (length e.table) g)

-- ---- its answer is never More

refusal_not_more : (a : Refusal) → (told_refusal a).number ≢ 14
refusal_not_more BadState = λ e. omega arith
refusal_not_more BadLength = λ e. omega arith
refusal_not_more (BadRecord k) = λ e. omega arith
refusal_not_more (Stale k) = λ e. omega arith
refusal_not_more (Ahead k) = λ e. omega arith
refusal_not_more (NoRoom k) = λ e. omega arith
refusal_not_more (BeyondClose k) = λ e. omega arith
refusal_not_more (Conflict k) = λ e. omega arith

outcome_not_more : (o : Outcome) → (outcome_told o).number ≢ 14
unfolding stand_told
outcome_not_more (refused a) = refusal_not_more a
outcome_not_more (taken r t) = λ e. omega (arith, stands_from (marked_in r) r.total r.close)

pub answers : (e : End) (f : List ℕ) → (accepting.says e f).number ≢ more.number
unfolding accept_told
answers e f = outcome_not_more (outcome e.receiver e.table f)

-- ---- a refusal changes nothing

pub kept : (e : End) (f : List ℕ) → (accepting.says e f).number ≤ 13 → accepting.after e f ≡ e
kept e f h =
    ap₂ (λ (r : Receiver) (t : List ℕ). record { receiver = r; table = t }) (refused_unchanged.state e.receiver e.table f h) (refused_unchanged.table e.receiver e.table f h)

-- ---- blind to the table's bytes

-- Refused alike, or taken to the same state with tables of one length.
abbrev Alike : Outcome → Outcome → Type 0
Alike (refused a) (refused c) = a ≡ c
Alike (refused a) (taken r t) = ⊥
Alike (taken r t) (refused a) = ⊥
Alike (taken r t) (taken q u) = (r ≡ q) × (length t ≡ length u)

on_alike : (v : Verdict) (f g : Effect → Outcome) → ((e : Effect) → Alike (f e) (g e)) → Alike (on_verdict v f) (on_verdict v g)
on_alike (Ok e) f g h = h e
on_alike (Err a) f g h = refl

take-alike : (n k : ℕ) (r : Receiver) (t u s : List ℕ) → length t ≡ length u → Alike (take_all n k r t s) (take_all n k r u s)
unfolding take_all verdict
take-alike zero k r t u s h = (refl, h)
take-alike (suc n) k r t u s h =
    on_alike (verdict k r t s) (λ e. take_all n (suc k) (after e r) (stored e t s) (drop 16 s)) (λ e. take_all n (suc k) (after e r) (stored e u s) (drop 16 s))
    (λ e. take-alike n (suc k) (after e r) (stored e t s) (stored e u s) (drop 16 s) (stored-length e t s ∙ h ∙ sym (stored-length e u s)))

outcome-alike : (r : Receiver) (t u f : List ℕ) → length t ≡ length u → Alike (outcome r t f) (outcome r u f)
unfolding outcome
outcome-alike r t u f h =
    rw h
    (by_bool (is_bad r (length u)) (λ e. rw e refl)
    (λ e. by_bool (is_bad_length 16 240 (length f)) (λ l. rw (e, l) refl) (λ l. rw (e, l) (take-alike (length f / 16) 0 r t u f h))))

told-alike : (o p : Outcome) → Alike o p → outcome_told o ≡ outcome_told p
told-alike (refused a) (refused c) h = ap told_refusal h
told-alike (refused a) (taken r t) h = absurd h
told-alike (taken r t) (refused a) h = absurd h
told-alike (taken r t) (taken q u) h = ap stand_told h.0

next-alike : (r : Receiver) (o p : Outcome) → Alike o p → next_after r o ≡ next_after r p
next-alike r (refused a) (refused c) h = refl
next-alike r (refused a) (taken q t) h = absurd h
next-alike r (taken q t) (refused a) h = absurd h
next-alike r (taken q t) (taken s u) h = h.0

table-alike : (t u : List ℕ) → length t ≡ length u → (o p : Outcome) → Alike o p → length (table_after t o) ≡ length (table_after u p)
table-alike t u l (refused a) (refused c) h = l
table-alike t u l (refused a) (taken q v) h = absurd h
table-alike t u l (taken q v) (refused a) h = absurd h
table-alike t u l (taken q v) (taken s w) h = h.1

-- Two ends with one state, and tables of one length.
pub record Like (s t : End) : Type 0 where
  pub receivers : s.receiver ≡ t.receiver
  pub lengths : length s.table ≡ length t.table

module _ (s t : End) (l : Like s t) where
  alike-here : (f : List ℕ) → Alike (outcome s.receiver s.table f) (outcome t.receiver t.table f)
  alike-here f = rw (← l.receivers) (outcome-alike s.receiver s.table t.table f l.lengths)

  pub bads : accepting.is_bad s ≡ accepting.is_bad t
  bads = rw (l.receivers, l.lengths)

  pub says : (f : List ℕ) → accepting.says s f ≡ accepting.says t f
  unfolding accept_told
  says f = told-alike (outcome s.receiver s.table f) (outcome t.receiver t.table f) (alike-here f)

  pub goes : (f : List ℕ) → Like (accepting.after s f) (accepting.after t f)
  unfolding accept_next accept_table
  goes f = record {
    receivers =
        ap (λ (r : Receiver). next_after r (outcome s.receiver s.table f)) l.receivers
        ∙ next-alike t.receiver (outcome s.receiver s.table f) (outcome t.receiver t.table f) (alike-here f);
    lengths = table-alike s.table t.table l.lengths (outcome s.receiver s.table f) (outcome t.receiver t.table f) (alike-here f);
  }

  pub shows : accepting.shows s ≡ accepting.shows t
  shows = rw (l.receivers, l.lengths)
