-- What an effect makes of the state and the table, one law for each way through the code; and a store undone. Assumes nothing.
use Rattle.std.specs.Prelude.{Some, None}
use mathlib.Core.Path.{◌≡◌, refl, sym, ap, ap₂, ◌∙◌}
use mathlib.Core.Bool.{Bool, true, false}
use mathlib.Core.List.{List, ◌++◌, append-nil}
use Prim.Native.Nat.{ℕ, ◌+◌, ◌≤◌, ◌<◌, min}
use native.Mathlib.Omega.{arith}
use lib.ListN.{length, take, drop, replicate, length-drop, take-append-drop}
use lib.Seq.{paste, take-take, take-add, length-take-le, length-paste, take-paste, drop-paste, take_at}
use mir.Syntax.{w32}
use mir.Val.{Fits}
use borrow.Author.Tests.{le-leb, lt-leb, leb-true, leb-false}
use Rattle.blocks.specs.Blocks.{stands, copied}
use Rattle.blocks.proofs.Blocks.{copied-fits, copied-dest, copied-src}
use Rattle.marks.specs.Marks.{no_marks, set_mark}
use Rattle.batch.specs.State.{slot_at, room_for, opened}
use Rattle.batch.specs.Verdict.{after, stored}
use Rattle.batch.specs.Helpers.{kept_for}
use Rattle.batch.specs.declared.Receiver.{Receiver}
use Rattle.batch.specs.declared.Close as held
use Rattle.batch.specs.declared.judge.Effect.{Effect}
use Rattle.batch.specs.declared.judge.Effect.TheVariants.{Repeat, Store, Close}

-- ---- the state

pub open_is : (batch n room s : ℕ) (m : List ℕ) → room ≡ room_for n → s ≡ min room 4096 → m ≡ no_marks
    → ◌≡◌ {A = Receiver} (record { marks = m; total = 0; close = None; slots = s; batch = batch }) (opened batch n)
unfolding opened
open_is batch n room s m er es em = simp (es, er, em)

module _ (r : Receiver) (e : Effect) where
  pub after_repeat : e ≡ Repeat → r ≡ after e r
  unfolding after
  after_repeat h = simp h

  pub after_store : (i w : ℕ) → e ≡ Store i w → (m : List ℕ) → m ≡ set_mark r.marks i
      → ◌≡◌ {A = Receiver} (record { marks = m; total = r.total + w; close = r.close; slots = r.slots; batch = r.batch }) (after e r)
  unfolding after
  after_store i w h m em = simp (h, em)

  pub after-close : (c : held.Close) → e ≡ Close c
      → ◌≡◌ {A = Receiver} (record { marks = r.marks; total = r.total; close = Some c; slots = r.slots; batch = r.batch }) (after e r)
  unfolding after
  after-close c h = simp h

  pub sum_fits : (i w : ℕ) → e ≡ Store i w → (after e r).total < 4294967296 → Fits w32 (r.total + w)
  unfolding after
  sum_fits i w h l = record { fits = simp h at l }

-- ---- the table

-- a copy from some place on is a copy of what stands there
copied-from : (d : List ℕ) (at : ℕ) (s : List ℕ) (from : ℕ) → copied d at s from ≡ copied d at (drop from s) 0
unfolding copied
copied-from d at s from = rw (same)
  where
    same : stands (length s) from ≡ stands (length (drop from s)) 0
    same = go (stands (length s) from) refl
      where
        go : (t : Bool) → stands (length s) from ≡ t → t ≡ stands (length (drop from s)) 0
        go true e = sym (le-leb (0 + 16) (length (drop from s)) (omega (arith, leb-true (from + 16) (length s) e, length-drop from s)))
        go false e = sym (lt-leb (0 + 16) (length (drop from s)) (omega (arith, leb-false (from + 16) (length s) e, length-drop from s)))

module _ (e : Effect) (t : List ℕ) where
  pub stored-new : (i w p : ℕ) → e ≡ Store i w → p ≡ slot_at i → (f : List ℕ) (at : ℕ) {u : List ℕ} → u ≡ copied t p f at → u ≡ stored e t (drop at f)
  unfolding stored
  stored-new i w p h ep f at q = simp (h, ← ep) (q ∙ copied-from t p f at)

  pub stored-none : (s : List ℕ) → ((i w : ℕ) → e ≡ Store i w → ⊥) → t ≡ stored e t s
  unfolding stored
  stored-none s o = none e o
    where
      none : (e : Effect) → ((i w : ℕ) → e ≡ Store i w → ⊥) → t ≡ stored e t s
      none Repeat o = refl
      none (Store i w) o = absurd (o i w refl)
      none (Close c) o = refl

  pub kept_store : (i w p : ℕ) → e ≡ Store i w → p ≡ slot_at i → {u : List ℕ} → u ≡ copied (replicate 16 0) 0 t p → u ≡ kept_for e t
  unfolding kept_for
  kept_store i w p h ep q = simp (h, ← ep) q

  pub kept-none : ((i w : ℕ) → e ≡ Store i w → ⊥) → replicate 16 0 ≡ kept_for e t
  unfolding kept_for
  kept-none o = none e o
    where
      none : (e : Effect) → ((i w : ℕ) → e ≡ Store i w → ⊥) → replicate 16 0 ≡ kept_for e t
      none Repeat o = refl
      none (Store i w) o = absurd (o i w refl)
      none (Close c) o = refl

-- ---- a store undone

-- the bytes that stand there, pasted: nothing changes
pasted-same : (t : List ℕ) (p : ℕ) → p + 16 ≤ length t → paste t p (take 16 (drop p t)) 16 ≡ t
pasted-same t p h = rw (take-take 16 16 (drop p t) (omega arith), ← take-add p 16 t) (take-append-drop (p + 16) t)

-- sixteen bytes over sixteen others
pasted-over : (t s b : List ℕ) (p : ℕ) → p + 16 ≤ length t → 16 ≤ length s → paste (paste t p s 16) p b 16 ≡ paste t p b 16
pasted-over t s b p h k =
    let front : take p (paste t p s 16) ≡ take p t =
    sym (take-take p (p + 16) (paste t p s 16) (omega arith))
    ∙ ap (take p) (take-paste t p s 16 (omega arith) k)
    ∙ take_at (take p t) (take 16 s) p (length-take-le p t (omega arith)) in
    ap₂ (λ (x y : List ℕ). x ++ take 16 b ++ y) front (drop-paste t p s 16 (omega arith) k)

kept-fits : (t : List ℕ) (p : ℕ) → p + 16 ≤ length t → copied (replicate 16 0) 0 t p ≡ take 16 (drop p t)
kept-fits t p h = copied-fits (replicate 16 0) 0 t p (omega arith) h ∙ append-nil (take 16 (drop p t))

back_fits : (t : List ℕ) (p : ℕ) (d : List ℕ) → p + 16 ≤ length t → length d ≡ length t
    → copied d p (take 16 (drop p t)) 0 ≡ paste d p (take 16 (drop p t)) 16
back_fits t p d h l =
    copied-fits d p (take 16 (drop p t)) 0 (omega arith) (omega (arith, length-take-le 16 (drop p t) (omega (arith, length-drop p t))))

copy-undone : (t s : List ℕ) (p : ℕ) → copied (copied t p s 0) p (copied (replicate 16 0) 0 t p) 0 ≡ t
copy-undone t s p = go (stands (length t) p) refl (stands (length s) 0) refl
  where
    go : (a : Bool) → stands (length t) p ≡ a → (b : Bool) → stands (length s) 0 ≡ b
        → copied (copied t p s 0) p (copied (replicate 16 0) 0 t p) 0 ≡ t
    go false ea b eb =
        rw (← copied-dest t p s 0 ea) (sym (copied-dest t p (copied (replicate 16 0) 0 t p) 0 ea))
    go true ea false eb =
        let h = leb-true (p + 16) (length t) ea in
        rw (← copied-src t p s 0 eb, kept-fits t p h, back_fits t p t h refl) (pasted-same t p h)
    go true ea true eb =
        let h = leb-true (p + 16) (length t) ea in
        let k = leb-true 16 (length s) eb in
        rw (copied-fits t p s 0 h k, kept-fits t p h, back_fits t p (paste t p s 16) h (length-paste t p s 16 h k), pasted-over t s (take 16 (drop p t)) p h k)
        (pasted-same t p h)

pub undone : (e : Effect) (t s : List ℕ) → stored e (stored e t s) (kept_for e t) ≡ t
unfolding stored kept_for
undone Repeat t s = refl
undone (Store i w) t s = copy-undone t s (slot_at i)
undone (Close c) t s = refl

-- ---- a table keeps its length

copied-length : (d : List ℕ) (at : ℕ) (s : List ℕ) (from : ℕ) → length (copied d at s from) ≡ length d
copied-length d at s from = go (stands (length d) at) refl (stands (length s) from) refl
  where
    go : (a : Bool) → stands (length d) at ≡ a → (b : Bool) → stands (length s) from ≡ b → length (copied d at s from) ≡ length d
    go false ea b eb = ap length (sym (copied-dest d at s from ea))
    go true ea false eb = ap length (sym (copied-src d at s from eb))
    go true ea true eb =
        let h = leb-true (at + 16) (length d) ea in
        let k = leb-true (from + 16) (length s) eb in
        ap length (copied-fits d at s from h k) ∙ length-paste d at (drop from s) 16 h (omega (arith, length-drop from s))

pub stored-length : (e : Effect) (t s : List ℕ) → length (stored e t s) ≡ length t
unfolding stored
stored-length Repeat t s = refl
stored-length (Store i w) t s = copied-length t (slot_at i) s 0
stored-length (Close c) t s = refl
