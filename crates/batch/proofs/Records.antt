-- What one record does, in words: which index is marked, what the total grows by, what its slot holds. Assumes nothing.
use Rattle.std.specs.Prelude.{Some}
use mathlib.Core.Path.{◌≡◌, refl, sym, ap, ◌∙◌}
use mathlib.Core.Logic.{◌≢◌}
use mathlib.Core.Bool.{true}
use mathlib.Core.List.{List, ◌++◌, append_assoc}
use Prim.Native.Nat.{ℕ, ◌+◌, ◌-◌, ◌≤◌, ◌<◌}
use native.Mathlib.Decide.{dec_lt}
use native.Mathlib.Omega.{arith}
use lib.ListN.{length, take, drop, length-drop, take-append-drop}
use lib.Seq.{paste, drop-paste, drop-drop, drop_at, take_at, length-take-le, drop-append-le, take-append-le}
use Rattle.blocks.proofs.Blocks.{copied-fits}
use Rattle.marks.specs.Marks.{marked}
use Rattle.marks.proofs.Marks.{set-mark-here, set-mark-other}
use Rattle.batch.specs.State.{slot_at, slot}
use Rattle.batch.specs.Verdict.{after, stored}
use Rattle.batch.specs.declared.Receiver.{Receiver}
use Rattle.batch.specs.declared.Close as held
use Rattle.batch.specs.declared.judge.Effect.{Effect}
use Rattle.batch.specs.declared.judge.Effect.TheVariants.{Repeat, Store, Close}

-- ---- a new particle

-- exactly its index is newly marked
pub store-marks : (r : Receiver) (i w : ℕ) → length r.marks ≡ 64 → i < 4096 → marked (after (Store i w) r).marks i ≡ true
unfolding after
store-marks r i w l h = set-mark-here r.marks i l h

pub store-others : (r : Receiver) (i w j : ℕ) → j ≢ i → marked (after (Store i w) r).marks j ≡ marked r.marks j
unfolding after
store-others r i w j d = set-mark-other r.marks i j d

-- its weight is added
pub store-total : (r : Receiver) (i w : ℕ) → (after (Store i w) r).total ≡ r.total + w
unfolding after
store-total r i w = refl

-- sixteen bytes pasted, read back, and read elsewhere
slot-pasted : (t s : List ℕ) (p : ℕ) → p + 16 ≤ length t → 16 ≤ length s → take 16 (drop p (paste t p s 16)) ≡ take 16 s
slot-pasted t s p h k =
    ap (λ (x : List ℕ). take 16 (drop p x)) (append_assoc (take p t) (take 16 s) (drop (p + 16) t))
    ∙ ap (take 16) (drop_at (take p t) (take 16 s ++ drop (p + 16) t) p (length-take-le p t (omega arith)))
    ∙ take_at (take 16 s) (drop (p + 16) t) 16 (length-take-le 16 s k)

slot-after : (t s : List ℕ) (p q : ℕ) → p + 16 ≤ length t → 16 ≤ length s → p + 16 ≤ q → drop q (paste t p s 16) ≡ drop q t
slot-after t s p q h k l =
    ap (λ (n : ℕ). drop n (paste t p s 16)) {x = q} {y = p + 16 + (q - (p + 16))} (omega arith)
    ∙ sym (drop-drop (q - (p + 16)) (p + 16) (paste t p s 16))
    ∙ ap (drop (q - (p + 16))) (drop-paste t p s 16 (omega arith) k)
    ∙ drop-drop (q - (p + 16)) (p + 16) t
    ∙ ap (λ (n : ℕ). drop n t) {x = p + 16 + (q - (p + 16))} {y = q} (omega arith)

front : (a y : List ℕ) (q : ℕ) → q + 16 ≤ length a → take 16 (drop q (a ++ y)) ≡ take 16 (drop q a)
front a y q h =
    ap (take 16) (drop-append-le q a y (omega arith)) ∙ take-append-le 16 (drop q a) y (omega (arith, length-drop q a))

slot-before : (t s : List ℕ) (p q : ℕ) → p + 16 ≤ length t → 16 ≤ length s → q + 16 ≤ p → take 16 (drop q (paste t p s 16)) ≡ take 16 (drop q t)
slot-before t s p q h k l =
    let long = length-take-le p t (omega arith) in
    ap (λ (x : List ℕ). take 16 (drop q x)) (append_assoc (take p t) (take 16 s) (drop (p + 16) t))
    ∙ front (take p t) (take 16 s ++ drop (p + 16) t) q (omega arith)
    ∙ sym (front (take p t) (drop p t) q (omega arith))
    ∙ ap (λ (x : List ℕ). take 16 (drop q x)) (take-append-drop p t)

-- its slot holds its 16 bytes, and every other slot is as it was
stored-fits : (i w : ℕ) (t s : List ℕ) → slot_at i + 16 ≤ length t → 16 ≤ length s → stored (Store i w) t s ≡ paste t (slot_at i) s 16
unfolding stored
stored-fits i w t s h k = copied-fits t (slot_at i) s 0 h k

pub store-slot : (i w : ℕ) (t s : List ℕ) → slot_at i + 16 ≤ length t → 16 ≤ length s → slot (stored (Store i w) t s) i ≡ take 16 s
store-slot i w t s h k =
    ap (λ (x : List ℕ). take 16 (drop (slot_at i) x)) (stored-fits i w t s h k)
    ∙ slot-pasted t s (slot_at i) h k

pub store-other-slot : (i w j : ℕ) (t s : List ℕ) → slot_at i + 16 ≤ length t → 16 ≤ length s → j ≢ i → slot (stored (Store i w) t s) j ≡ slot t j
store-other-slot i w j t s h k d =
    ap (λ (x : List ℕ). take 16 (drop (slot_at j) x)) (stored-fits i w t s h k)
    ∙ elim (dec_lt j i) [
      | yes l ↦ slot-before t s (slot_at i) (slot_at j) h k (omega arith)
      | no l ↦ ap (take 16) (slot-after t s (slot_at i) (slot_at j) h k (omega arith))
    ]

-- ---- a close

pub close-taken : (r : Receiver) (c : held.Close) → (after (Close c) r).close ≡ Some c
unfolding after
close-taken r c = refl

pub close-marks : (r : Receiver) (c : held.Close) → (after (Close c) r).marks ≡ r.marks
unfolding after
close-marks r c = refl

-- ---- a repeat changes nothing

pub repeat_state : (r : Receiver) → after Repeat r ≡ r
unfolding after
repeat_state r = refl

-- ---- no record changes the slots or the batch number

pub after-slots : (e : Effect) (r : Receiver) → (after e r).slots ≡ r.slots
unfolding after
after-slots Repeat r = refl
after-slots (Store i w) r = refl
after-slots (Close c) r = refl

pub after-batch : (e : Effect) (r : Receiver) → (after e r).batch ≡ r.batch
unfolding after
after-batch Repeat r = refl
after-batch (Store i w) r = refl
after-batch (Close c) r = refl
