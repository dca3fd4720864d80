-- One law for each way through the code that judges a record and tells how a batch stands. Assumes nothing.
use Rattle.std.specs.Prelude.{Result, Some, None, Ok, Err, if◌then◌else◌}
use mathlib.Core.Path.{◌≡◌, refl, sym, ap, ◌∙◌}
use mathlib.Core.Bool.{Bool, true, false, not, ◌&&◌}
use Prim.Native.Nat.{ℕ, ◌-◌, ◌*◌, ◌≤◌, ◌<◌}
use native.Mathlib.Omega.{arith}
use lib.Dec.{eqb, ltb}
use lib.IntN.{ℤ}
use borrow.Author.Tests.{eq-eqb, ne_eqb, lt-ltb, le-ltb, le-leb, lt-leb}
use Rattle.marks.specs.Marks.{marked, marked_below}
use Rattle.record.specs.Record.{class_of, told_class}
use Rattle.record.specs.declared.Record.{Record}
use Rattle.record.specs.declared.Record.TheVariants as kind
use Rattle.record.specs.declared.BadRecord as bad
use Rattle.record.specs.declared.Class.{Class}
use Rattle.record.specs.declared.Class.TheVariants as class
use Rattle.record.proofs.Valid.{class-told}
use Rattle.batch.specs.State.{room_for, limit, is_bad, told_stand, told_standing, stand_told, stands_told}
use Rattle.batch.specs.Verdict.{Verdict, on_particle, on_close, on_ours, batch_in, on_read}
use Rattle.batch.specs.declared.Receiver.{Receiver}
use Rattle.batch.specs.declared.Close as held
use Rattle.batch.specs.declared.Standing.{Standing}
use Rattle.batch.specs.declared.Standing.TheVariants as stand
use Rattle.batch.specs.declared.Refusal.TheVariants.{BadRecord, Stale, Ahead, NoRoom, BeyondClose, Conflict}
use Rattle.batch.specs.declared.judge.Effect.TheVariants.{Repeat, Store, Close}

-- ---- a close that is taken, or not

pub limit-open : (r : Receiver) → r.close ≡ None → r.slots ≡ limit r
unfolding limit
limit-open r e = simp e

pub limit-taken : (r : Receiver) (c : held.Close) → r.close ≡ Some c → c.count ≡ limit r
unfolding limit
limit-taken r c e = simp e

-- ---- a bad state

module _ (r : Receiver) (n : ℕ) where
  pub bad-table : (room : ℕ) → room ≡ room_for n → room < r.slots → true ≡ is_bad r n
  unfolding is_bad
  bad-table room e h = simp (lt-ltb (room_for n) r.slots (omega arith))

  module _ (room : ℕ) (er : room ≡ room_for n) (h1 : r.slots ≤ room) where
    fits : ltb (room_for n) r.slots ≡ false
    fits = le-ltb (room_for n) r.slots (omega arith)

    pub bad-slots : 4096 < r.slots → true ≡ is_bad r n
    unfolding is_bad
    bad-slots h = simp (fits, lt-ltb 4096 r.slots h)

    module _ (h2 : r.slots ≤ 4096) (l m b : ℕ) (el : l ≡ limit r) (em : m ≡ marked_below r.marks 4096) (eb : b ≡ marked_below r.marks l) where
      few : ltb 4096 r.slots ≡ false
      few = le-ltb 4096 r.slots h2

      pub bad-mark : b < m → true ≡ is_bad r n
      unfolding is_bad
      bad-mark h = simp (fits, few, ← em, ← el, ← eb, lt-ltb b m h)

      module _ (h3 : m ≤ b) where
        pub bad-close : r.slots < l → true ≡ is_bad r n
        unfolding is_bad
        bad-close h = simp (fits, few, ← em, ← el, ← eb, le-ltb b m h3, lt-ltb r.slots l h)

        pub bad-total : l ≤ r.slots → ltb (1000000 * m) r.total ≡ is_bad r n
        unfolding is_bad
        bad-total h = simp (fits, few, ← em, ← el, ← eb, le-ltb b m h3, le-ltb r.slots l h)

-- ---- how a batch stands

pub stands-open : (r : Receiver) → r.close ≡ None → told_stand stand.Open ≡ stand_told r
unfolding stand_told
stands-open r e = simp e

module _ (r : Receiver) (c : held.Close) (m : ℕ) (ec : r.close ≡ Some c) (em : m ≡ marked_below r.marks 4096) where
  pub stands-missing : m < c.count → told_stand (stand.Missing (c.count - m)) ≡ stand_told r
  unfolding stand_told
  stands-missing h = simp (ec, ← em, lt-ltb m c.count h)

  module _ (h : c.count ≤ m) where
    pub stands-complete : r.total ≡ c.total → told_stand stand.Complete ≡ stand_told r
    unfolding stand_told
    stands-complete e = simp (ec, ← em, le-ltb m c.count h, eq-eqb r.total c.total e)

    pub stands-differs : (r.total ≡ c.total → ⊥) → told_stand stand.Differs ≡ stand_told r
    unfolding stand_told
    stands-differs e = simp (ec, ← em, le-ltb m c.count h, ne_eqb r.total c.total e)

pub stands-bad : (r : Receiver) (n : ℕ) (b : Bool) → b ≡ is_bad r n → b ≡ true → told_standing (Err (record {})) ≡ stands_told r n
unfolding stands_told
stands-bad r n b eb e = simp (← eb, e)

pub stands_good : (r : Receiver) (n : ℕ) (b : Bool) → b ≡ is_bad r n → b ≡ false → (s : Standing) → told_stand s ≡ stand_told r
    → told_standing (Ok s) ≡ stands_told r n
unfolding stands_told
stands_good r n b eb e s q = q ∙ simp (← eb, e)

-- ---- a particle

module _ (k : ℕ) (r : Receiver) (i w : ℕ) where
  pub particle-room : r.slots ≤ i → Err (NoRoom k) ≡ on_particle k r i w
  unfolding on_particle
  particle-room h = simp (le-leb r.slots i h)

  module _ (h1 : i < r.slots) (l : ℕ) (el : l ≡ limit r) where
    pub particle-beyond : l ≤ i → Err (BeyondClose k) ≡ on_particle k r i w
    unfolding on_particle
    particle-beyond h = simp (lt-leb r.slots i h1, ← el, le-leb l i h)

    module _ (h2 : i < l) (m : Bool) (em : m ≡ marked r.marks i) where
      pub particle_repeat : m ≡ true → Ok Repeat ≡ on_particle k r i w
      unfolding on_particle
      particle_repeat h = simp (lt-leb r.slots i h1, ← el, lt-leb l i h2, ← em, h)

      pub particle-store : m ≡ false → Ok (Store i w) ≡ on_particle k r i w
      unfolding on_particle
      particle-store h = simp (lt-leb r.slots i h1, ← el, lt-leb l i h2, ← em, h)

-- ---- a close

module _ (k : ℕ) (r : Receiver) (c : held.Close) where
  pub close-room : r.slots < c.count → Err (NoRoom k) ≡ on_close k r c
  unfolding on_close
  close-room h = simp (lt-ltb r.slots c.count h)

  module _ (h1 : c.count ≤ r.slots) where
    module _ (first : held.Close) (e : r.close ≡ Some first) (d : Bool) (ed : d ≡ not (eqb first.count c.count && eqb first.total c.total)) where
      by_same : (x : Bool) → d ≡ not x → ◌≡◌ {A = Verdict} (if d then Err (Conflict k) else Ok Repeat) (if x then Ok Repeat else Err (Conflict k))
      by_same true q = rw q refl
      by_same false q = rw q refl

      at_first : (if d then Err (Conflict k) else Ok Repeat) ≡ on_close k r c
      unfolding on_close
      at_first = rw (le-ltb r.slots c.count h1, e) (by_same (eqb first.count c.count && eqb first.total c.total) ed)

      pub close-unlike : d ≡ true → Err (Conflict k) ≡ on_close k r c
      close-unlike h = rw h at at_first

      pub close_repeat : d ≡ false → Ok Repeat ≡ on_close k r c
      close_repeat h = rw h at at_first

    module _ (e : r.close ≡ None) (m b : ℕ) (em : m ≡ marked_below r.marks 4096) (eb : b ≡ marked_below r.marks c.count) where
      pub close-marked : b < m → Err (Conflict k) ≡ on_close k r c
      unfolding on_close
      close-marked h = simp (le-ltb r.slots c.count h1, e, ← em, ← eb, lt-ltb b m h)

      pub close-new : m ≤ b → Ok (Close c) ≡ on_close k r c
      unfolding on_close
      close-new h = simp (le-ltb r.slots c.count h1, e, ← em, ← eb, le-ltb b m h)

-- ---- a record

pub ours-particle : (k : ℕ) (r : Receiver) (item : Record) (b i : ℕ) (x y z : ℤ) (w : ℕ) → item ≡ kind.Particle b i x y z w
    → {v : Verdict} → v ≡ on_particle k r i w → v ≡ on_ours k r item
ours-particle k r item b i x y z w e q = simp e q

pub ours-close : (k : ℕ) (r : Receiver) (item : Record) (b n t : ℕ) → item ≡ kind.Close b n t
    → {v : Verdict} → v ≡ on_close k r (record { count = n; total = t }) → v ≡ on_ours k r item
ours-close k r item b n t e q = simp e q

module _ (k : ℕ) (r : Receiver) (a found : Result Record bad.BadRecord) (ea : a ≡ found) where
  pub judge-bad : (e : bad.BadRecord) → a ≡ Err e → Err (BadRecord k) ≡ on_read k r found
  unfolding on_read
  judge-bad e h = simp (← ea, h)

  module _ (item : Record) (e : a ≡ Ok item) (b : ℕ) (eb : b ≡ batch_in item) (c : Class) (ec : told_class c ≡ told_class (class_of b r.batch)) where
    class_is : class_of (batch_in item) r.batch ≡ c
    class_is = sym (class-told c (class_of b r.batch) ec ∙ ap (λ (x : ℕ). class_of x r.batch) eb)

    pub judge-ahead : c ≡ class.Ahead → Err (Ahead k) ≡ on_read k r found
    unfolding on_read
    judge-ahead h = simp (← ea, e, class_is, h)

    pub judge-stale : c ≡ class.Stale → Err (Stale k) ≡ on_read k r found
    unfolding on_read
    judge-stale h = simp (← ea, e, class_is, h)

    pub judge-ours : c ≡ class.Ours → {v : Verdict} → v ≡ on_ours k r item → v ≡ on_read k r found
    unfolding on_read
    judge-ours h q = simp (← ea, e, class_is, h) q
