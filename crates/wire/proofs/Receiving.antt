-- The receiver over frames of one batch: each is taken whole, and what it then answers and shows is what is due.
-- Assumes nothing.
use Rattle.std.specs.Prelude.{if◌then◌else◌}
use mathlib.Core.Path.{◌≡◌, refl, sym, ap, ◌∙◌, subst}
use mathlib.Core.Bool.{false}
use mathlib.Core.List.{List, [], ◌∷◌, ◌++◌, append_assoc, append-nil}
use Prim.Native.Nat.{ℕ, suc, ◌+◌, ◌-◌, ◌*◌, ◌/◌, ◌%◌, ◌≤◌}
use native.Mathlib.Nat.{suc-mul}
use native.Mathlib.Omega.{arith}
use lib.Dec.{ltb}
use lib.ListN.{length, length-append}
use lib.Seq.{drop_at}
use borrow.Author.Tests.{eq-eqb, ne_eqb, le-ltb, ltb-false}
use Rattle.marks.specs.Marks.{marked, marked_below, count_below}
use Rattle.marks.proofs.Counts.{count_same, count_add, count-both, count_none, all-counted}
use Rattle.record.specs.Record.{written_bytes}
use Rattle.record.specs.Frame.{is_bad_length}
use Rattle.batch.specs.State.{marked_in, stand_told, stands_told}
use Rattle.batch.specs.Verdict.{after, stored}
use Rattle.batch.specs.Frame.{taken, take_all, outcome, accept_told, accept_next, accept_table}
use Rattle.batch.specs.declared.Receiver.{Receiver}
use Rattle.batch.proofs.Good.{Good, not-bad, good-all}
use Rattle.batch.proofs.Effects.{stored-length}
use Rattle.dec.proofs.Cases.{by_bool}
use Rattle.wire.specs.Receive.{End, accepting}
use Rattle.wire.specs.Batch.{Batch, count, weight_at, total, Sendable, Item, record_of, message, AllOf, Frame, Frames, messages, has, has_close, arrived_count, arrived_total, due, expected}
use Rattle.wire.specs.Afterwards.{items}
use Rattle.wire.proofs.Sums.{sum_same, has-none, all-of-append}
use Rattle.wire.proofs.Filled.{Filled}
use Rattle.wire.proofs.Arrived.{Held, takes, record-long}

pub good_length : (m : ℕ) → 1 ≤ m → m ≤ 15 → is_bad_length 16 240 (m * 16) ≡ false
unfolding is_bad_length
good_length m some most =
    rw (ne_eqb (m * 16) 0 (λ e. omega arith), le-ltb 240 (m * 16) (omega arith), eq-eqb (m * 16 % 16) 0 (omega arith))

-- the receiver and its table after these frames
abbrev pub after_all : End → (messages : List (List ℕ)) → End
after_all e [] = e
after_all e (m ∷ ms) = after_all (accepting.after e m) ms

module _ (b : Batch) (can : Sendable b) where
  -- ---- the bytes of a frame

  pub message-long : (f : List Item) → AllOf b f → length (message b f) ≡ length f * 16
  unfolding message
  message-long [] h = refl
  message-long (item ∷ f) h =
      length-append (written_bytes 0 (record_of b item)) (message b f)
      ∙ omega (arith, record-long b can item h.0, message-long f h.1, suc-mul (length f) 16)

  module _ (n : ℕ) (slotted : count b * 16 ≤ n) where
    abbrev pub Holding : List Item → Receiver → Type 0
    Holding = Held b can n

    -- ---- a frame's records, one after another

    record TookAll (k : ℕ) (l f : List Item) (r : Receiver) (t : List ℕ) : Type 0 where
      receiver : Receiver
      table : List ℕ
      took : take_all (length f) k r t (message b f) ≡ taken receiver table
      holds : Holding (l ++ f) receiver
      long : length table ≡ length t
      fills : (t₀ : List ℕ) → length t ≡ n → Filled b t₀ l t → Filled b t₀ (l ++ f) table

    take_all-took : (f : List Item) → AllOf b f → (k : ℕ) (l : List Item) → AllOf b l → (r : Receiver) → Holding l r → (t : List ℕ) → TookAll k l f r t
    unfolding take_all message
    take_all-took [] a k l c r h t = record {
      receiver = r;
      table = t;
      took = refl;
      holds = subst (λ (x : List Item). Holding x r) (sym (append-nil l)) h;
      long = refl;
      fills = λ t₀ m g. subst (λ (x : List Item). Filled b t₀ x t) (sym (append-nil l)) g;
    }
    take_all-took (item ∷ f) a k l c r h t =
        let s : List ℕ = written_bytes 0 (record_of b item) ++ message b f in
        let o = takes b can n slotted l r h k t item a.0 c (message b f) in
        let go = take_all-took f a.1 (suc k) (l ++ item ∷ []) (all-of-append b l (item ∷ []) c (a.0, tt)) (after o.effect r) o.held (stored o.effect t s) in
        record {
          receiver = go.receiver;
          table = go.table;
          took = rw (o.verdict, drop_at (written_bytes 0 (record_of b item)) (message b f) 16 (record-long b can item a.0)) go.took;
          holds = subst (λ (x : List Item). Holding x go.receiver) (append_assoc l (item ∷ []) f) go.holds;
          long = go.long ∙ stored-length o.effect t s;
          fills = λ t₀ m g.
              subst (λ (x : List Item). Filled b t₀ x go.table) (append_assoc l (item ∷ []) f)
              (go.fills t₀ (stored-length o.effect t s ∙ m) (o.filled t₀ m g));
        }

    -- ---- how the batch then stands

    module _ (l : List Item) (a : AllOf b l) (r : Receiver) (h : Holding l r) where
      marked-count : marked_in r ≡ arrived_count b l
      unfolding marked_below
      marked-count =
          count_same (marked r.marks) (λ i. has i l) 4096 (λ j k. h.marks j)
          ∙ ap (count_below (λ i. has i l)) {x = 4096} {y = count b + (4096 - count b)} (omega arith)
          ∙ count_add (λ i. has i l) (count b) (4096 - count b)
          ∙ omega (arith, count_none (λ s. has (count b + s) l) (4096 - count b) (λ j k. has-none b l a (count b + j) (omega arith)))

      -- all N arrived: the whole weight
      all-weigh : count b ≤ arrived_count b l → arrived_total b l ≡ total b
      all-weigh q =
          let e : arrived_count b l ≡ count b = omega (arith, count-both (λ i. has i l) (count b)) in
          sum_same (λ i. if has i l then weight_at b i else 0) (weight_at b) (count b) (λ j k. rw (all-counted (λ i. has i l) (count b) e j k))

      stands-due : stand_told r ≡ due b l
      unfolding stand_told
      stands-due =
          rw (marked-count, h.close, h.total)
          (by_bool (has_close l)
          (λ e.
          rw e
          (by_bool (ltb (arrived_count b l) (count b)) (λ m. rw m)
          (λ m. rw (m, eq-eqb (arrived_total b l) (total b) (all-weigh (ltb-false (arrived_count b l) (count b) m))))))
          (λ e. rw e))

    -- ---- a whole frame

    stands_good : (r : Receiver) → Good r n → stands_told r n ≡ stand_told r
    unfolding stands_told
    stands_good r g = rw (not-bad r n g)

    -- what is seen of a receiver that holds these
    pub shows-held : (l : List Item) → AllOf b l → (e : End) → Holding l e.receiver → Good e.receiver n → length e.table ≡ n
        → accepting.shows e ≡ (expected b l).shown
    shows-held l a e h q long =
        rw (long, stands_good e.receiver q, stands-due l a e.receiver h, marked-count l a e.receiver h, h.total)

    pub record Accepts (l f : List Item) (e : End) : Type 0 where
      pub says : accepting.says e (message b f) ≡ due b (l ++ f)
      pub shows : accepting.shows (accepting.after e (message b f)) ≡ (expected b (l ++ f)).shown
      pub holds : Holding (l ++ f) (accepting.after e (message b f)).receiver
      pub good : Good (accepting.after e (message b f)).receiver n
      pub long : length (accepting.after e (message b f)).table ≡ n
      pub fills : (t₀ : List ℕ) → Filled b t₀ l e.table → Filled b t₀ (l ++ f) (accepting.after e (message b f)).table

    pub accepts : (l : List Item) → AllOf b l → (f : List Item) → Frame b f → (e : End) → Holding l e.receiver → Good e.receiver n → length e.table ≡ n → Accepts l f e
    unfolding outcome accept_told accept_next accept_table
    accepts l a f g e h q long =
        let m : length (message b f) ≡ length f * 16 = message-long f g.ours in
        let t = take_all-took f g.ours 0 l a e.receiver h e.table in
        let c : length f * 16 / 16 ≡ length f = omega arith in
        let o : outcome e.receiver e.table (message b f) ≡ taken t.receiver t.table =
        rw (long, not-bad e.receiver n q, m, good_length (length f) g.some g.most, c) t.took in
        let all : AllOf b (l ++ f) = all-of-append b l f a g.ours in
        let k : Good t.receiver n = good-all (length f) 0 e.receiver e.table (message b f) t.receiver t.table n t.took q in
        let d : stand_told t.receiver ≡ due b (l ++ f) = stands-due (l ++ f) all t.receiver t.holds in
        record {
          says = rw o d;
          shows = rw o (shows-held (l ++ f) all (record { receiver = t.receiver; table = t.table }) t.holds k (t.long ∙ long));
          holds = rw o t.holds;
          good = rw o k;
          long = rw o (t.long ∙ long);
          fills = λ t₀ x. rw o (t.fills t₀ long x);
        }

    -- ---- frame after frame: what is left of them all

    pub record Course (l : List Item) (fs : List (List Item)) (e : End) : Type 0 where
      pub holds : Holding (l ++ items fs) (after_all e (messages b fs)).receiver
      pub fills : (t₀ : List ℕ) → Filled b t₀ l e.table → Filled b t₀ (l ++ items fs) (after_all e (messages b fs)).table

    pub course : (fs : List (List Item)) → Frames b fs → (l : List Item) → AllOf b l → (e : End) → Holding l e.receiver → Good e.receiver n → length e.table ≡ n
        → Course l fs e
    course [] g l a e h q long = record {
      holds = rw (append-nil l) h;
      fills = λ t₀ x. rw (append-nil l) x;
    }
    course (f ∷ fs) g l a e h q long =
        let c = accepts l a f g.0 e h q long in
        let go = course fs g.1 (l ++ f) (all-of-append b l f a g.0.ours) (accepting.after e (message b f)) c.holds c.good c.long in
        record {
          holds = rw (← append_assoc l f (items fs)) go.holds;
          fills = λ t₀ x. rw (← append_assoc l f (items fs)) (go.fills t₀ (c.fills t₀ x));
        }
