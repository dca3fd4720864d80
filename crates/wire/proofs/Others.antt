-- A frame of another batch: Stale or Ahead at its first record, and nothing is changed. Assumes nothing.
use Rattle.std.specs.Prelude.{Err, if◌then◌else◌}
use mathlib.Core.Path.{◌≡◌, refl}
use mathlib.Core.List.{List, [], ◌∷◌, ◌++◌}
use Prim.Native.Nat.{ℕ, ◌+◌, ◌-◌, ◌*◌, ◌/◌, ◌%◌, ◌<◌}
use native.Mathlib.Nat.{not-suc-le-zero}
use native.Mathlib.Omega.{arith}
use lib.Dec.{leb}
use lib.ListN.{length}
use borrow.Author.Tests.{ne_eqb}
use Rattle.record.specs.Record.{written_bytes, class_of}
use Rattle.batch.specs.Verdict.{Verdict, verdict, on_read, on_class}
use Rattle.batch.specs.Frame.{told_refusal, refused, take_all, outcome, accept_told, accept_next, accept_table}
use Rattle.batch.specs.declared.Receiver.{Receiver}
use Rattle.batch.specs.declared.Refusal.{Refusal}
use Rattle.batch.specs.declared.Refusal.TheVariants.{Ahead, Stale}
use Rattle.batch.proofs.Good.{Good, not_bad}
use Rattle.dec.proofs.Cases.{by_bool}
use Rattle.wire.specs.Receive.{End, accepting}
use Rattle.wire.specs.Batch.{Batch, Item, particle, close, record_of, IsOf, message, Frame}
use Rattle.wire.specs.Among.{Other, refusal}
use Rattle.wire.proofs.Arrived.{reads}
use Rattle.wire.proofs.Receiving.{message-long, good_length}

module _ (b o : Batch) (small : b.number < 65536) (x : Other b o) where
  abbrev answer : Refusal
  answer = if leb ((o.number + (65536 - b.number)) % 65536) 32767 then Ahead 0 else Stale 0

  answer-told : told_refusal answer ≡ refusal o.number b.number
  answer-told = by_bool (leb ((o.number + (65536 - b.number)) % 65536) 32767) (λ q. rw q refl) (λ q. rw q refl)

  class-refuses : (v : Verdict) → on_class 0 (class_of o.number b.number) v ≡ Err answer
  unfolding class_of
  class-refuses v =
      let can = x.sendable.numbered in
      rw (ne_eqb ((o.number + (65536 - b.number)) % 65536) 0 (λ e. x.unlike (omega arith)))
      (by_bool (leb ((o.number + (65536 - b.number)) % 65536) 32767) (λ q. rw q refl) (λ q. rw q refl))

  record-refused : (r : Receiver) → r.batch ≡ b.number → (t : List ℕ) (item : Item) → IsOf o item → (s : List ℕ)
      → verdict 0 r t (written_bytes 0 (record_of o item) ++ s) ≡ Err answer
  unfolding verdict on_read
  record-refused r e t (particle i) q s = rw (reads o x.sendable (particle i) q s, e) (class-refuses _)
  record-refused r e t close q s = rw (reads o x.sendable close q s, e) (class-refuses _)

  records_refused : (f : List Item) → Frame o f → (r : Receiver) → r.batch ≡ b.number → (t : List ℕ)
      → take_all (length f) 0 r t (message o f) ≡ refused answer
  unfolding take_all message
  records_refused [] g r e t = absurd (not-suc-le-zero g.some)
  records_refused (item ∷ f) g r e t = rw (record-refused r e t item g.ours.0 (message o f))

  pub record Refuses (f : List Item) (e : End) : Type 0 where
    pub says : accepting.says e (message o f) ≡ refusal o.number b.number
    pub leaves : accepting.after e (message o f) ≡ e

  pub refuses : (f : List Item) → Frame o f → (e : End) → e.receiver.batch ≡ b.number → Good e.receiver (length e.table) → Refuses f e
  unfolding outcome accept_told accept_next accept_table
  refuses f g e h q =
      let c : length f * 16 / 16 ≡ length f = omega arith in
      let r : outcome e.receiver e.table (message o f) ≡ refused answer =
      rw (not_bad e.receiver (length e.table) q, message-long o x.sendable f g.ours, good_length (length f) g.some g.most, c)
      (records_refused f g e.receiver h e.table) in
      record { says = rw r answer-told; leaves = rw r refl }
