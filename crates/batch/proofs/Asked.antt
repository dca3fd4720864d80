-- What a record that is taken was: the verdict read backwards. Assumes nothing.
use Rattle.std.specs.Prelude.{Option, Some, None, Ok, Err, if◌then◌else◌}
use mathlib.Core.Path.{◌≡◌, refl, ap, ap₂, ◌∙◌, subst}
use mathlib.Core.Bool.{Bool, true, false, ◌&&◌}
use mathlib.Core.List.{List}
use Prim.Native.Nat.{ℕ, ◌≤◌, ◌<◌}
use native.Mathlib.Omega.{arith}
use lib.Dec.{eqb, leb}
use lib.IntN.{ℤ}
use borrow.Author.Tests.{leb-false, ltb-false, eqb-true}
use Rattle.cobs.specs.Words.{◌exceeds◌}
use Rattle.marks.specs.Marks.{marked, marked_below}
use Rattle.record.specs.Record.{read_of, class_of}
use Rattle.record.specs.declared.Record.{Record}
use Rattle.record.specs.declared.Record.TheVariants as kind
use Rattle.std.specs.Prelude.{Result, Ok, Err}
use Rattle.record.specs.declared.BadRecord as bad
use Rattle.record.specs.declared.Class.{Class}
use Rattle.record.specs.declared.Class.TheVariants as class
use Rattle.batch.specs.State.{marked_in, mark_from, limit}
use Rattle.batch.specs.Verdict.{on_particle, by_close, on_close, on_ours, batch_in, on_class, on_read, Verdict, verdict}
use Rattle.batch.specs.declared.Receiver.{Receiver}
use Rattle.batch.specs.declared.Close as held
use Rattle.batch.specs.declared.Refusal.{Refusal}
use Rattle.batch.specs.declared.Refusal.TheVariants.{NoRoom, BeyondClose, Conflict}
use Rattle.batch.specs.declared.judge.Effect.{Effect}
use Rattle.batch.specs.declared.judge.Effect.TheVariants.{Repeat, Store, Close}

-- The record that s starts with, of our batch, and why it has this effect on the state.
pub data Asked (r : Receiver) (s : List ℕ) : Effect → Type 0 where
  new : (batch i : ℕ) (x y z : ℤ) (w : ℕ) → read_of 0 s ≡ Ok (kind.Particle batch i x y z w)
      → i < r.slots → i < limit r → marked r.marks i ≡ false → Asked r s (Store i w)
  known : (batch i : ℕ) (x y z : ℤ) (w : ℕ) → read_of 0 s ≡ Ok (kind.Particle batch i x y z w)
      → i < r.slots → marked r.marks i ≡ true → Asked r s Repeat
  first : (batch : ℕ) (c : held.Close) → read_of 0 s ≡ Ok (kind.Close batch c.count c.total)
      → c.count ≤ r.slots → r.close ≡ None → marked_in r ≤ marked_below r.marks c.count → Asked r s (Close c)
  again : (batch : ℕ) (c : held.Close) → read_of 0 s ≡ Ok (kind.Close batch c.count c.total) → r.close ≡ Some c → Asked r s Repeat

never : {a : Refusal} {e : Effect} → ◌≡◌ {A = Verdict} (Err a) (Ok e) → ⊥
never h = let z : ◌≡◌ {A = ℕ} 0 1 = cc in omega arith

same : {e f : Effect} → ◌≡◌ {A = Verdict} (Ok e) (Ok f) → e ≡ f
same h = cc

both : (a b : Bool) → (a && b) ≡ true → (a ≡ true) × (b ≡ true)
both true b e = (refl, e)
both false b e = let z : ◌≡◌ {A = ℕ} 0 1 = cc in absurd (omega arith)

asked-particle : (k : ℕ) (r : Receiver) (s : List ℕ) (e : Effect) (batch i : ℕ) (x y z : ℤ) (w : ℕ)
    → read_of 0 s ≡ Ok (kind.Particle batch i x y z w) → on_particle k r i w ≡ Ok e → Asked r s e
unfolding on_particle
asked-particle k r s e batch i x y z w q h = go (leb r.slots i) refl (leb (limit r) i) refl (marked r.marks i) refl h
  where
    go : (a : Bool) → leb r.slots i ≡ a → (b : Bool) → leb (limit r) i ≡ b → (m : Bool) → marked r.marks i ≡ m
        → ◌≡◌ {A = Verdict} (if a then Err (NoRoom k) else if b then Err (BeyondClose k) else if m then Ok Repeat else Ok (Store i w)) (Ok e)
        → Asked r s e
    go true ea b eb m em h = absurd (never h)
    go false ea true eb m em h = absurd (never h)
    go false ea false eb true em h = subst (Asked r s) (same h) (known batch i x y z w q (leb-false r.slots i ea) em)
    go false ea false eb false em h =
        subst (Asked r s) (same h) (new batch i x y z w q (leb-false r.slots i ea) (leb-false (limit r) i eb) em)

asked_by : (k : ℕ) (r : Receiver) (s : List ℕ) (e : Effect) (batch : ℕ) (c : held.Close) → read_of 0 s ≡ Ok (kind.Close batch c.count c.total)
    → c.count ≤ r.slots → (o : Option held.Close) → r.close ≡ o → by_close k r o c ≡ Ok e → Asked r s e
asked_by k r s e batch c q l None eo h = go (mark_from c.count r) refl h
  where
    go : (a : Bool) → mark_from c.count r ≡ a → ◌≡◌ {A = Verdict} (if a then Err (Conflict k) else Ok (Close c)) (Ok e) → Asked r s e
    go true ea h = absurd (never h)
    go false ea h = subst (Asked r s) (same h) (first batch c q l eo (ltb-false (marked_below r.marks c.count) (marked_in r) ea))
asked_by k r s e batch c q l (Some d) eo h = go (eqb d.count c.count && eqb d.total c.total) refl h
  where
    go : (a : Bool) → (eqb d.count c.count && eqb d.total c.total) ≡ a → ◌≡◌ {A = Verdict} (if a then Ok Repeat else Err (Conflict k)) (Ok e)
        → Asked r s e
    go true ea h =
        let p = both (eqb d.count c.count) (eqb d.total c.total) ea in
        let same_close : d ≡ c =
        ap₂ {C = held.Close} (λ (n t : ℕ). record { count = n; total = t }) (eqb-true d.count c.count p.0) (eqb-true d.total c.total p.1) in
        subst (Asked r s) (same h) (again batch c q (eo ∙ ap Some same_close))
    go false ea h = absurd (never h)

asked-close : (k : ℕ) (r : Receiver) (s : List ℕ) (e : Effect) (batch : ℕ) (c : held.Close) → read_of 0 s ≡ Ok (kind.Close batch c.count c.total)
    → on_close k r c ≡ Ok e → Asked r s e
unfolding on_close
asked-close k r s e batch c q h = go (c.count exceeds r.slots) refl h
  where
    go : (a : Bool) → (c.count exceeds r.slots) ≡ a → (if a then Err (NoRoom k) else by_close k r r.close c) ≡ Ok e → Asked r s e
    go true ea h = absurd (never h)
    go false ea h = asked_by k r s e batch c q (ltb-false r.slots c.count ea) r.close refl h

asked-ours : (k : ℕ) (r : Receiver) (s : List ℕ) (e : Effect) (item : Record) → read_of 0 s ≡ Ok item → on_ours k r item ≡ Ok e → Asked r s e
asked-ours k r s e (kind.Particle batch i x y z w) q h = asked-particle k r s e batch i x y z w q h
asked-ours k r s e (kind.Close batch n t) q h = asked-close k r s e batch (record { count = n; total = t }) q h

asked-class : (k : ℕ) (c : Class) (v : Verdict) (e : Effect) → on_class k c v ≡ Ok e → v ≡ Ok e
asked-class k class.Ours v e h = h
asked-class k class.Ahead v e h = absurd (never h)
asked-class k class.Stale v e h = absurd (never h)

asked-read : (k : ℕ) (r : Receiver) (s : List ℕ) (e : Effect) (a : Result Record bad.BadRecord) → read_of 0 s ≡ a → on_read k r a ≡ Ok e → Asked r s e
unfolding on_read
asked-read k r s e (Err _) q h = absurd (never h)
asked-read k r s e (Ok item) q h =
    asked-ours k r s e item q (asked-class k (class_of (batch_in item) r.batch) (on_ours k r item) e h)

pub asked : (k : ℕ) (r : Receiver) (t s : List ℕ) (e : Effect) → verdict k r t s ≡ Ok e → Asked r s e
unfolding verdict
asked k r t s e h = asked-read k r s e (read_of 0 s) refl h
