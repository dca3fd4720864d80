-- Every moment of a delivery is a delivery. Assumes nothing.
use mathlib.Core.Path.{◌≡◌, refl, sym, ap, ◌∙◌}
use mathlib.Core.List.{List, [], ◌∷◌, ◌++◌, append_assoc}
use Prim.Native.Nat.{ℕ, suc, ◌+◌, ◌-◌}
use native.Mathlib.Omega.{arith}
use lib.Dec.{ltb}
use lib.ListN.{length, take, drop, take-append-drop}
use lib.Seq.{take-append-le, take-append-add}
use borrow.Author.Tests.{ltb-true, ltb-false}
use Rattle.cobs.specs.Code.{encode}
use Rattle.dec.proofs.Cases.{by_bool}
use Rattle.wire.specs.Loop.{framed}
use Rattle.wire.specs.Batch.{Batch, Item, message, messages, Frames}
use Rattle.wire.specs.Demand3.{Delivery, Begun, Premises}
use Rattle.wire.specs.Moments.{Moment}

-- the first n bytes of these frames and of the front of one more
record First (b : Batch) (fs : List (List Item)) (s : List ℕ) (n : ℕ) : Type 0 where
  whole : List (List Item)
  later : List (List Item)
  frames : whole ++ later ≡ fs
  framing : Frames b whole
  begun : List ℕ
  begins : Begun b begun
  bytes : take n (framed (messages b fs) ++ s) ≡ framed (messages b whole) ++ begun

-- the front of a front
front_of : (b : Batch) (s : List ℕ) → Begun b s → (n : ℕ) → Begun b (take n s)
front_of b s q n = record {
  frame = q.frame;
  framing = q.framing;
  later = drop n s ++ q.later;
  front = sym (append_assoc (take n s) (drop n s) q.later) ∙ ap (λ (t : List ℕ). t ++ q.later) (take-append-drop n s) ∙ q.front;
}

first : (b : Batch) (fs : List (List Item)) → Frames b fs → (s : List ℕ) → Begun b s → (n : ℕ) → First b fs s n
first b [] g s q n =
    record { whole = []; later = []; frames = refl; framing = tt; begun = take n s; begins = front_of b s q n; bytes = refl }
first b (f ∷ fs) g s q n =
    let e : List ℕ = encode (message b f) in
    let t : List ℕ = framed (messages b fs) ++ s in
    by_bool (ltb (length e) n)
    (λ h.
    let k : ℕ = n - suc (length e) in
    let go = first b fs g.1 s q k in
    let c : n ≡ length e + suc k = omega (arith, ltb-true (length e) n h) in
    record {
      whole = f ∷ go.whole;
      later = go.later;
      frames = ap (λ (l : List (List Item)). f ∷ l) go.frames;
      framing = (g.0, go.framing);
      begun = go.begun;
      begins = go.begins;
      bytes =
          ap (take n) (append_assoc e (0 ∷ framed (messages b fs)) s) ∙ ap (λ (m : ℕ). take m (e ++ 0 ∷ t)) c ∙ take-append-add e (0 ∷ t) (suc k)
          ∙ ap (λ (l : List ℕ). e ++ 0 ∷ l) go.bytes ∙ sym (append_assoc e (0 ∷ framed (messages b go.whole)) go.begun);
    })
    (λ h. record {
      whole = [];
      later = f ∷ fs;
      frames = refl;
      framing = tt;
      begun = take n e;
      begins = record { frame = f; framing = g.0; later = drop n e; front = take-append-drop n e };
      bytes =
          ap (take n) (append_assoc e (0 ∷ framed (messages b fs)) s) ∙ take-append-le n e (0 ∷ t) (ltb-false (length e) n h);
    })

pub moment : (d : Delivery) → Premises d → (n : ℕ) → Moment d n
moment d p n =
    let f = first d.batch d.frames p.framing d.begun p.begins n in
    record {
      whole = f.whole;
      later = f.later;
      frames = f.frames;
      begun = f.begun;
      premises = λ pieces e. record {
        sendable = p.sendable;
        framing = f.framing;
        begins = f.begins;
        cut = e ∙ ap (take n) p.cut ∙ f.bytes;
        room = p.room;
        slots = p.slots;
        same = p.same;
      };
    }
