-- After a delivery: the total is that of the distinct particles that arrived, repeats change it by nothing, and where the caller
-- leaves the table alone each of them stands in its slot. Assumes nothing.
use Rattle.std.specs.Prelude.{if◌then◌else◌}
use mathlib.Core.Path.{◌≡◌, refl, sym, ap, ap₂, ◌∙◌}
use mathlib.Core.Bool.{Bool, true, false, ◌&&◌, ◌||◌, true≢false, or_assoc}
use mathlib.Core.List.{List, [], ◌∷◌, ◌++◌}
use Prim.Native.Nat.{ℕ}
use lib.Dec.{eqb}
use lib.ListN.{length}
use borrow.Author.Tests.{eqb-true}
use Rattle.dec.proofs.Cases.{by_bool}
use Rattle.batch.specs.declared.Receiver.{Receiver}
use Rattle.batch.proofs.Good.{open-good}
use Rattle.wire.specs.Receive.{End}
use Rattle.wire.specs.Batch.{Batch, count, weight_at, Item, particle, close, has, arrived_total}
use Rattle.wire.specs.Demand3.{Delivery, Premises, started}
use Rattle.wire.specs.Afterwards.{items, receiver_after, table_after, LeftAlone, Slots, same_item, same_frame, is_among, firsts, without_repeats}
use Rattle.wire.proofs.Sums.{sum_same}
use Rattle.wire.proofs.Filled.{none_filled}
use Rattle.wire.proofs.Arrived.{open-held}
use Rattle.wire.proofs.Receiving.{Course, course}
use Rattle.wire.proofs.Among.{receiver-after, end_after}

module _ (d : Delivery) (p : Premises d) where
  whole-course : Course d.batch p.sendable (length d.table) p.slots [] d.frames (started d).state
  whole-course =
      let h = open-held d.batch p.sendable (length d.table) p.slots in
      let q = open-good d.batch.number (length d.table) in
      course d.batch p.sendable (length d.table) p.slots d.frames p.framing [] tt (started d).state h q refl

  -- ---- the total

  pub total-after : (receiver_after d).total ≡ arrived_total d.batch (items d.frames)
  total-after = ap (λ (r : Receiver). r.total) (receiver-after d p) ∙ whole-course.holds.total

  -- ---- the slots

  pub slots-after : LeftAlone d → Slots d
  slots-after untouched =
      let f = whole-course.fills d.table (none_filled d.batch d.table) in
      let e : table_after d ≡ _ = ap (λ (x : End). x.table) (end_after d p untouched) in
      record { arrived = λ i h. rw e (f.arrived i h); others = λ i h. rw e (f.others i h) }

-- ---- a list of frames, and the same list without its repeats

pub has-append : (i : ℕ) (l m : List Item) → has i (l ++ m) ≡ (has i l || has i m)
has-append i [] m = refl
has-append i (particle j ∷ l) m = go (eqb i j) (has-append i l m)
  where
    go : (c : Bool) → has i (l ++ m) ≡ (has i l || has i m) → (c || has i (l ++ m)) ≡ ((c || has i l) || has i m)
    go true e = refl
    go false e = e
has-append i (close ∷ l) m = has-append i l m

same_item-is : (x y : Item) → same_item x y ≡ true → x ≡ y
same_item-is (particle i) (particle j) e = ap particle (eqb-true i j e)
same_item-is (particle i) close e = absurd (true≢false (sym e))
same_item-is close (particle j) e = absurd (true≢false (sym e))
same_item-is close close e = refl

and_both : (p q : Bool) → (p && q) ≡ true → (p ≡ true) × (q ≡ true)
and_both true q e = (refl, e)
and_both false q e = absurd (true≢false (sym e))

same-frame : (f g : List Item) → same_frame f g ≡ true → f ≡ g
same-frame [] [] e = refl
same-frame [] (y ∷ g) e = absurd (true≢false (sym e))
same-frame (x ∷ f) [] e = absurd (true≢false (sym e))
same-frame (x ∷ f) (y ∷ g) e =
    let b = and_both (same_item x y) (same_frame f g) e in
    ap₂ ◌∷◌ (same_item-is x y b.0) (same-frame f g b.1)

-- what a frame that was seen before holds has arrived before
among-has : (i : ℕ) (f : List Item) (seen : List (List Item)) → is_among f seen ≡ true → (has i (items seen) || has i f) ≡ has i (items seen)
among-has i f [] e = absurd (true≢false (sym e))
among-has i f (g ∷ seen) e =
    by_bool (same_frame f g)
    (λ s. rw (same-frame f g s, has-append i g (items seen)) (go (has i g) (has i (items seen))))
    (λ s. rw (has-append i g (items seen)) (rest (has i g) (has i (items seen)) (has i f) (among-has i f seen (rw s at e))))
  where
    go : (p q : Bool) → ((p || q) || p) ≡ (p || q)
    go true q = refl
    go false true = refl
    go false false = refl

    rest : (p q r : Bool) → (q || r) ≡ q → ((p || q) || r) ≡ (p || q)
    rest true q r e = refl
    rest false q r e = e

-- the frames seen, then one more, then others: with it among those seen, or first in line
turn : (s f l : Bool) → (s || (f || l)) ≡ ((f || s) || l)
turn true true l = refl
turn true false l = refl
turn false true l = refl
turn false false l = refl

firsts-has : (i : ℕ) (seen fs : List (List Item)) → (has i (items seen) || has i (items fs)) ≡ (has i (items seen) || has i (items (firsts seen fs)))
firsts-has i seen [] = refl
firsts-has i seen (f ∷ fs) =
    let s : Bool = has i (items seen) in
    by_bool (is_among f seen)
    (λ a.
    rw (a, has-append i f (items fs))
    (sym (or_assoc s (has i f) (has i (items fs))) ∙ ap (λ (x : Bool). x || has i (items fs)) (among-has i f seen a) ∙ firsts-has i seen fs))
    (λ a.
    let ih = rw (has-append i f (items seen)) at (firsts-has i (f ∷ seen) fs) in
    rw (a, has-append i f (items fs), has-append i f (items (firsts (f ∷ seen) fs)))
    (turn s (has i f) (has i (items fs)) ∙ ih ∙ sym (turn s (has i f) (has i (items (firsts (f ∷ seen) fs))))))

pub repeats-add-nothing : (b : Batch) (fs : List (List Item)) → arrived_total b (items fs) ≡ arrived_total b (items (without_repeats fs))
repeats-add-nothing b fs =
    sum_same (λ i. if has i (items fs) then weight_at b i else 0) (λ i. if has i (items (without_repeats fs)) then weight_at b i else 0) (count b)
    (λ j k. rw (firsts-has j [] fs))

-- Two deliveries of one batch, one of the other's frames without their repeats: the totals are equal.
pub same_total : (d e : Delivery) → Premises d → Premises e → e.batch ≡ d.batch → e.frames ≡ without_repeats d.frames
    → (receiver_after d).total ≡ (receiver_after e).total
same_total d e p q b f =
    total-after d p ∙ repeats-add-nothing d.batch d.frames
    ∙ sym (total-after e q ∙ rw (b, f))
