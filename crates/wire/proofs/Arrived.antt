-- The receiver over records of one batch: whatever has arrived, its marks, total and close say it, and no record is refused.
-- Assumes nothing.
use Rattle.std.specs.Prelude.{Option, Some, None, Ok, if◌then◌else◌}
use mathlib.Core.Path.{◌≡◌, refl, sym, ap, ap₂, ◌∙◌}
use mathlib.Core.Bool.{Bool, true, false}
use mathlib.Core.List.{List, [], ◌∷◌, ◌++◌}
use Prim.Native.Nat.{ℕ, ◌+◌, ◌*◌, ◌/◌, ◌≤◌, ◌<◌, min}
use native.Mathlib.Nat.{le_refl}
use native.Mathlib.Decide.{ℕ_discrete}
use native.Mathlib.Omega.{arith}
use lib.ListN.{length}
use borrow.Author.Tests.{eq-eqb, le-leb, lt-leb, le-ltb}
use Rattle.cobs.specs.Answers.{done}
use Rattle.marks.specs.Marks.{marked, set_mark, marked_below}
use Rattle.marks.proofs.Marks.{none-marked, set-mark-here, set-mark-other, set-mark-length}
use Rattle.marks.proofs.Below.{from-none}
use Rattle.record.specs.Record.{bytes_of, is_valid, fields_for, write_told, written_bytes, read_of}
use Rattle.record.proofs.Valid.{class_same}
use Rattle.record.proofs.Round.{Holds, particle, close, read-written}
use Rattle.batch.specs.State.{opened, marked_in, limit_by, limit}
use Rattle.batch.specs.Verdict.{on_particle, on_close, on_ours, on_read, verdict, after, stored}
use Rattle.batch.specs.declared.Receiver.{Receiver}
use Rattle.batch.specs.declared.Close.{Close}
use Rattle.batch.specs.declared.judge.Effect.{Effect}
use Rattle.batch.specs.declared.judge.Effect.TheVariants as effect
use Rattle.dec.proofs.Cases.{by_bool}
use Rattle.wire.specs.Batch as wire
use Rattle.wire.specs.Batch.{Batch, count, particle_at, weight_at, total, Sendable, Item, record_of, IsOf, AllOf, has, has_close, arrived_total}
use Rattle.wire.proofs.Filled.{Filled, filled-again, filled-new, filled-close}
use Rattle.wire.proofs.Sums.{sum_same, sum-new, sum_zero, sum-most, has-itself, has_other, has-again, has-close, has-none, has_close-particle, has_close-close}

-- ---- the batch's records are valid, and read back

module _ (b : Batch) (can : Sendable b) where
  total-small : total b < 4294967296
  total-small =
      let m : total b ≤ count b * 1000000 = sum-most (weight_at b) 1000000 (count b) (λ j k. omega (arith, (can.ranges j k).light)) in
      omega arith

  holds : (item : Item) → IsOf b item → Holds (record_of b item)
  holds (wire.particle i) h =
      let r = can.ranges i h in
      particle b.number i (particle_at b i).x (particle_at b i).y (particle_at b i).z (weight_at b i) (omega arith) (omega arith) r.x16 r.y16 r.z16 (omega (arith, r.light))
  holds wire.close h = close b.number (count b) (total b) (omega arith) (omega arith) total-small

  valid : (item : Item) → IsOf b item → is_valid 0 (fields_for 0 (record_of b item)) ≡ true
  unfolding is_valid fields_for
  valid (wire.particle i) h = rw (le-leb (weight_at b i) 1000000 (omega (arith, (can.ranges i h).light)))
  valid wire.close h = rw (le-leb (count b) 4096 (omega arith))

  pub written : (item : Item) → IsOf b item → write_told 0 (record_of b item) ≡ done 0 0
  unfolding write_told
  written item h = rw (valid item h)

  pub reads : (item : Item) → IsOf b item → (t : List ℕ) → read_of 0 (written_bytes 0 (record_of b item) ++ t) ≡ Ok (record_of b item)
  reads item h t = read-written (record_of b item) t (holds item h) (written item h)

  pub record-long : (item : Item) → IsOf b item → length (written_bytes 0 (record_of b item)) ≡ 16
  unfolding written_bytes bytes_of
  record-long item h = rw (written item h)

  -- ---- what the receiver holds when these items have arrived, on a table of n bytes with a slot for each particle

  abbrev pub closing : Close
  closing = record { count = count b; total = total b }

  abbrev pub close_by : Bool → Option Close
  close_by true = Some closing
  close_by false = None

  pub record Held (n : ℕ) (l : List Item) (r : Receiver) : Type 0 where
    pub batch : r.batch ≡ b.number
    pub words : length r.marks ≡ 64
    pub slots : r.slots ≡ min (n / 16) 4096
    pub marks : (i : ℕ) → marked r.marks i ≡ has i l
    pub total : r.total ≡ arrived_total b l
    pub close : r.close ≡ close_by (has_close l)

  module _ (n : ℕ) (slotted : count b * 16 ≤ n) where
    pub open-held : Held n [] (opened b.number n)
    unfolding opened
    open-held = record {
      batch = refl;
      words = refl;
      slots = refl;
      marks = λ i. none-marked i;
      total = sym (sum_zero (λ i. 0) (count b) (λ j. refl));
      close = refl;
    }

    module _ (l : List Item) (r : Receiver) (h : Held n l r) where
      enough : count b ≤ r.slots
      enough = omega (arith, h.slots)

      within : count b ≤ limit r
      unfolding limit
      within = rw h.close (go (has_close l))
        where
          go : (t : Bool) → count b ≤ limit_by r.slots (close_by t)
          go true = le_refl (count b)
          go false = enough

      -- the record's verdict, by what it reads
      judged : (k : ℕ) (t : List ℕ) (item : Item) → IsOf b item → (s : List ℕ)
          → verdict k r t (written_bytes 0 (record_of b item) ++ s) ≡ on_ours k r (record_of b item)
      unfolding verdict on_read
      judged k t (wire.particle i) q s = rw (reads (wire.particle i) q s, h.batch, class_same b.number (omega arith))
      judged k t wire.close q s = rw (reads wire.close q s, h.batch, class_same b.number (omega arith))

      -- weights of the items that arrived, where what has arrived is the same
      same_total : (m : List Item) → ((j : ℕ) → has j m ≡ has j l) → arrived_total b m ≡ arrived_total b l
      same_total m e = sum_same (λ j. if has j m then weight_at b j else 0) (λ j. if has j l then weight_at b j else 0) (count b) (λ j k. rw (e j))

      -- a particle that has arrived before
      particle-again : (i : ℕ) → has i l ≡ true → Held n (l ++ wire.particle i ∷ []) r
      particle-again i e = record {
        batch = h.batch;
        words = h.words;
        slots = h.slots;
        marks = λ j. h.marks j ∙ sym (has-again i l e j);
        total = h.total ∙ sym (same_total (l ++ wire.particle i ∷ []) (has-again i l e));
        close = h.close ∙ ap close_by (sym (has_close-particle i l));
      }

      -- a new one
      particle-new : (i : ℕ) → i < count b → has i l ≡ false → Held n (l ++ wire.particle i ∷ []) (after (effect.Store i (weight_at b i)) r)
      unfolding after
      particle-new i q e = record {
        batch = h.batch;
        words = set-mark-length r.marks i ∙ h.words;
        slots = h.slots;
        marks = λ j.
            elim (ℕ_discrete j i) [
              | yes d ↦
                  ap (marked (set_mark r.marks i)) d ∙ set-mark-here r.marks i h.words (omega arith)
                  ∙ sym (ap (λ (x : ℕ). has x (l ++ wire.particle i ∷ [])) d ∙ has-itself i l)
              | no d ↦ set-mark-other r.marks i j d ∙ h.marks j ∙ sym (has_other j i l d)
            ];
        total =
            ap₂ ◌+◌ h.total (sym (rw (has-itself i l)))
            ∙ sym
            (sum-new (λ j. if has j l then weight_at b j else 0) (λ j. if has j (l ++ wire.particle i ∷ []) then weight_at b j else 0) i (count b) q (rw e) (λ j d. rw (has_other j i l d)));
        close = h.close ∙ ap close_by (sym (has_close-particle i l));
      }

      -- the close, first or again
      close-held : (x : Receiver) → x.batch ≡ r.batch → x.marks ≡ r.marks → x.slots ≡ r.slots → x.total ≡ r.total
          → x.close ≡ Some closing → Held n (l ++ wire.close ∷ []) x
      close-held x eb em es et ec = record {
        batch = eb ∙ h.batch;
        words = ap length em ∙ h.words;
        slots = es ∙ h.slots;
        marks = λ j. ap (λ (w : List ℕ). marked w j) em ∙ h.marks j ∙ sym (has-close j l);
        total = et ∙ h.total ∙ sym (same_total (l ++ wire.close ∷ []) (λ j. has-close j l));
        close = ec ∙ ap close_by (sym (has_close-close l));
      }

      -- ---- each record is taken, and its effect is what arrived

      pub record Took (k : ℕ) (t : List ℕ) (item : Item) (s : List ℕ) : Type 0 where
        pub effect : Effect
        pub verdict : verdict k r t (written_bytes 0 (record_of b item) ++ s) ≡ Ok effect
        pub held : Held n (l ++ item ∷ []) (after effect r)
        pub filled : (t₀ : List ℕ) → length t ≡ n → Filled b t₀ l t → Filled b t₀ (l ++ item ∷ []) (stored effect t (written_bytes 0 (record_of b item) ++ s))

      takes-particle : (k : ℕ) (t : List ℕ) (i : ℕ) → i < count b → (s : List ℕ) → Took k t (wire.particle i) s
      unfolding on_particle after stored
      takes-particle k t i q s =
          by_bool (has i l)
          (λ e. record {
            effect = effect.Repeat;
            verdict = judged k t (wire.particle i) q s ∙ rw (lt-leb r.slots i (omega (arith, enough)), lt-leb (limit r) i (omega (arith, within)), h.marks i ∙ e);
            held = particle-again i e;
            filled = λ t₀ m f. filled-again b t₀ l t f i e;
          })
          (λ e. record {
            effect = effect.Store i (weight_at b i);
            verdict = judged k t (wire.particle i) q s ∙ rw (lt-leb r.slots i (omega (arith, enough)), lt-leb (limit r) i (omega (arith, within)), h.marks i ∙ e);
            held = particle-new i q e;
            filled = λ t₀ m f. filled-new b t₀ l t f i (weight_at b i) s q (rw m slotted) (record-long (wire.particle i) q);
          })

      no_mark_above : AllOf b l → marked_in r ≤ marked_below r.marks (count b)
      no_mark_above a = from-none r.marks (count b) 4096 (omega arith) (λ j low high. h.marks j ∙ has-none b l a j low)

      takes-close : (k : ℕ) (t : List ℕ) → AllOf b l → (s : List ℕ) → Took k t wire.close s
      unfolding on_close after stored
      takes-close k t a s =
          by_bool (has_close l)
          (λ e.
          let c : r.close ≡ Some closing = h.close ∙ ap close_by e in
          record {
            effect = effect.Repeat;
            verdict = judged k t wire.close tt s ∙ rw (le-ltb r.slots (count b) enough, c, eq-eqb (count b) (count b) refl, eq-eqb (total b) (total b) refl);
            held = close-held r refl refl refl refl c;
            filled = λ t₀ m f. filled-close b t₀ l t f;
          })
          (λ e.
          let c : r.close ≡ None = h.close ∙ ap close_by e in
          record {
            effect = effect.Close closing;
            verdict = judged k t wire.close tt s ∙ rw (le-ltb r.slots (count b) enough, c, le-ltb (marked_below r.marks (count b)) (marked_in r) (no_mark_above a));
            held = close-held (after (effect.Close closing) r) refl refl refl refl refl;
            filled = λ t₀ m f. filled-close b t₀ l t f;
          })

      pub takes : (k : ℕ) (t : List ℕ) (item : Item) → IsOf b item → AllOf b l → (s : List ℕ) → Took k t item s
      takes k t (wire.particle i) q a s = takes-particle k t i q s
      takes k t wire.close q a s = takes-close k t a s
