-- Sixteen bytes: each turn of a loop over them, and what a test or a copy that was taken says. Assumes nothing.
use Rattle.std.specs.Prelude.{Some, None, if◌then◌else◌}
use mathlib.Core.Path.{◌≡◌, refl, sym, ap, ◌∙◌}
use mathlib.Core.Bool.{Bool, true, false, not, ◌&&◌, false≢true}
use mathlib.Core.List.{List, [], ◌∷◌, ◌++◌}
use Prim.Native.Nat.{ℕ, zero, suc, ◌+◌, ◌-◌, ◌≤◌, ◌<◌}
use native.Mathlib.Nat.{not-suc-le-zero, le_of_suc-le-suc}
use native.Mathlib.Numerals.{add-one}
use native.Mathlib.Omega.{arith}
use lib.Dec.{eqb}
use lib.ListN.{length, get_or, take, drop, set, replicate, length-drop}
use lib.Seq.{paste, paste-suc, take-suc, take-take, get_or-drop, get_or-take, length-take-le, take_all}
use borrow.Author.Tests.{le-leb, leb-true, eqb-true, eqb-false, not-true}
use borrow.Rule.Slice.PartMut.{put_mid}
use Rattle.std.proofs.lemmas.Slice.{put_mid-paste}
use Rattle.blocks.specs.declared.Taken.TheVariants.{Nothing, Clear, Zeros, Mixed}
use Rattle.blocks.specs.Blocks.{stands, each, sixteen, is_clear, is_all, copied, kind_of, taken_of, filled}
use Rattle.blocks.specs.Helpers.{block_at, moved}

-- ---- a test of each byte

and_true : (a : Bool) → (a && true) ≡ a
and_true true = refl
and_true false = refl

and_false : (a : Bool) → (a && false) ≡ false
and_false true = refl
and_false false = refl

and_left : (a b : Bool) → (a && b) ≡ true → a ≡ true
and_left true b e = refl
and_left false b e = e

and_right : (a b : Bool) → (a && b) ≡ true → b ≡ true
and_right true b e = e
and_right false b e = absurd (false≢true e)

and_assoc : (a b c : Bool) → (a && b && c) ≡ (a && (b && c))
and_assoc true b c = refl
and_assoc false b c = refl

-- ---- sixteen bytes that were read, or not

pub block_some : (s : List ℕ) (at : ℕ) (block : List ℕ) → Some block ≡ block_at s at → (at + 16 ≤ length s) × (block ≡ take 16 (drop at s))
block_some s at block e = go (stands (length s) at) refl e
  where
    go : (t : Bool) → stands (length s) at ≡ t → Some block ≡ (if t then Some (take 16 (drop at s)) else None)
        → (at + 16 ≤ length s) × (block ≡ take 16 (drop at s))
    go true q e = (leb-true (at + 16) (length s) q, cc)
    go false q e = absurd (cc)

pub block_none : (s : List ℕ) (at : ℕ) → None ≡ block_at s at → stands (length s) at ≡ false
block_none s at e = go (stands (length s) at) refl e
  where
    go : (t : Bool) → stands (length s) at ≡ t → None ≡ (if t then Some (take 16 (drop at s)) else None) → t ≡ false
    go true q e = absurd (cc)
    go false q e = refl

module _ (p : ℕ → Bool) where
  each_snoc : (s : List ℕ) (b : ℕ) → each p (s ++ b ∷ []) ≡ (each p s && p b)
  each_snoc [] b = and_true (p b)
  each_snoc (a ∷ s) b = ap (λ (t : Bool). p a && t) (each_snoc s b) ∙ sym (and_assoc (p a) (each p s) (p b))

  -- one byte more is tested, and all of them are
  pub each-turn : (s : List ℕ) (k : ℕ) (held answer : Bool) → k < length s → held ≡ each p (take k s) → answer ≡ p (get_or s k 0)
      → (held && answer) ≡ each p (take (k + 1) s)
  each-turn s k held answer h e q = rw (add-one k, take-suc s k 0 h, each_snoc (take k s) (get_or s k 0), e, q)

  pub each-end : (s : List ℕ) (k : ℕ) (held : Bool) → length s ≤ k → held ≡ each p (take k s) → held ≡ each p s
  each-end s k held h e = e ∙ ap (each p) (take_all k s h)

  -- what the test of a list says of each byte
  each_at : (s : List ℕ) → each p s ≡ true → (k : ℕ) → k < length s → p (get_or s k 0) ≡ true
  each_at [] e k h = absurd (not-suc-le-zero h)
  each_at (b ∷ s) e zero h = and_left (p b) (each p s) e
  each_at (b ∷ s) e (suc k) h = each_at s (and_right (p b) (each p s) e) k (le_of_suc-le-suc h)

  -- of sixteen bytes: they stand there, and each passes
  sixteen-at : (s : List ℕ) (at : ℕ) → sixteen p s at ≡ true → (at + 16 ≤ length s) × ((k : ℕ) → k < 16 → p (get_or s (at + k) 0) ≡ true)
  sixteen-at s at e = go (stands (length s) at) refl e
    where
      go : (t : Bool) → stands (length s) at ≡ t → (if t then each p (take 16 (drop at s)) else false) ≡ true
          → (at + 16 ≤ length s) × ((k : ℕ) → k < 16 → p (get_or s (at + k) 0) ≡ true)
      go true q e =
          let h : at + 16 ≤ length s = leb-true (at + 16) (length s) q in (
            h,
            λ k l.
                rw (get_or-take, get_or-drop) at
                (each_at (take 16 (drop at s)) e k (omega (arith, length-take-le 16 (drop at s) (omega (arith, length-drop at s))))),
          )
      go false q e = absurd (false≢true e)

  -- and the other way: where they do not stand, and where they do
  pub sixteen-none : (s : List ℕ) (at : ℕ) → None ≡ block_at s at → false ≡ sixteen p s at
  sixteen-none s at e = rw (block_none s at e)

  pub sixteen-some : (s : List ℕ) (at : ℕ) (block : List ℕ) → Some block ≡ block_at s at → (answer : Bool) → answer ≡ each p block → answer ≡ sixteen p s at
  sixteen-some s at block e answer q =
      let b = block_some s at block e in
      rw (le-leb (at + 16) (length s) b.0, ← b.1) q

-- ---- what the two tests say

pub clear_says : (s : List ℕ) (at : ℕ) → is_clear s at ≡ true → (at + 16 ≤ length s) × ((k : ℕ) → k < 16 → get_or s (at + k) 0 ≡ 0 → ⊥)
unfolding is_clear
clear_says s at e =
    let h = sixteen-at (λ b. not (eqb b 0)) s at e in
    (h.0, λ k l z. eqb-false (get_or s (at + k) 0) 0 (not-true (eqb (get_or s (at + k) 0) 0) (h.1 k l)) z)

pub all-says : (v : ℕ) (s : List ℕ) (at : ℕ) → is_all v s at ≡ true → (at + 16 ≤ length s) × ((k : ℕ) → k < 16 → get_or s (at + k) 0 ≡ v)
unfolding is_all
all-says v s at e =
    let h = sixteen-at (λ b. eqb b v) s at e in
    (h.0, λ k l. eqb-true (get_or s (at + k) 0) v (h.1 k l))

-- ---- what is copied and filled, where sixteen bytes stand, and where not

pub copied-fits : (d : List ℕ) (at : ℕ) (s : List ℕ) (from : ℕ) → at + 16 ≤ length d → from + 16 ≤ length s → copied d at s from ≡ paste d at (drop from s) 16
unfolding copied
copied-fits d at s from h k = rw (le-leb (at + 16) (length d) h, le-leb (from + 16) (length s) k)

pub filled-fits : (d : List ℕ) (at v : ℕ) → at + 16 ≤ length d → filled d at v ≡ paste d at (replicate 16 v) 16
unfolding filled
filled-fits d at v h = rw (le-leb (at + 16) (length d) h)

pub copied-dest : (d : List ℕ) (at : ℕ) (s : List ℕ) (from : ℕ) → stands (length d) at ≡ false → d ≡ copied d at s from
unfolding copied
copied-dest d at s from e = rw e

pub copied-src : (d : List ℕ) (at : ℕ) (s : List ℕ) (from : ℕ) → stands (length s) from ≡ false → d ≡ copied d at s from
unfolding copied
copied-src d at s from e = go (stands (length d) at)
  where
    go : (t : Bool) → d ≡ (if t then (if stands (length s) from then paste d at (drop from s) 16 else d) else d)
    go true = rw e
    go false = refl

pub filled-dest : (d : List ℕ) (at v : ℕ) → stands (length d) at ≡ false → d ≡ filled d at v
unfolding filled
filled-dest d at v e = rw e

-- ---- sixteen bytes of a slice written over

put : (d : List ℕ) (at : ℕ) (s t : List ℕ) → s ≡ t → length t ≡ 16 → put_mid at (at + 16 - at) d s ≡ paste d at t 16
put d at s t e l = put_mid-paste at (at + 16 - at) d s t 16 e (omega arith) (omega arith)

pub write-turn : (d₀ d : List ℕ) (at : ℕ) (block : List ℕ) (k : ℕ) → at + k < length d₀ → k < length block → d ≡ paste d₀ at block k
    → set d (at + k) (get_or block k 0) ≡ paste d₀ at block (k + 1)
write-turn d₀ d at block k h l e = rw (add-one k, e) (paste-suc d₀ at block k 0 h l)

pub moved-memory : (d : List ℕ) (at : ℕ) (s : List ℕ) (from : ℕ) → at + 16 ≤ length d → (block t : List ℕ)
    → Some block ≡ block_at s from → t ≡ paste d at block 16 → t ≡ copied d at s from
moved-memory d at s from h block t b q =
    let r = block_some s from block b in
    q ∙ rw (r.1, take-take 16 16 (drop from s) (omega arith)) refl ∙ sym (copied-fits d at s from h r.0)

pub filled-memory : (d : List ℕ) (at v : ℕ) → stands (length d) at ≡ true → (t : List ℕ) → t ≡ replicate (length (take (at + 16 - at) (drop at d))) v
    → put_mid at (at + 16 - at) d t ≡ filled d at v
filled-memory d at v e t q =
    let h : at + 16 ≤ length d = leb-true (at + 16) (length d) e in
    let n : length (take (at + 16 - at) (drop at d)) ≡ 16 = length-take-le (at + 16 - at) (drop at d) (omega (arith, length-drop at d)) ∙ omega arith in
    put d at t (replicate 16 v) (q ∙ ap (λ (k : ℕ). replicate k v) n) refl ∙ sym (filled-fits d at v h)

-- ---- what a copy answers

module _ (d : List ℕ) (at : ℕ) (s : List ℕ) (from : ℕ) where
  pub taken_none : None ≡ moved d at s from → Nothing ≡ taken_of d at s from
  unfolding taken_of
  taken_none e = go (stands (length d) at) (stands (length s) from) e
    where
      go : (x y : Bool) → None ≡ (if x then (if y then Some (take 16 (drop from s)) else None) else None)
          → Nothing ≡ (if x then (if y then kind_of (take 16 (drop from s)) else Nothing) else Nothing)
      go true true e = absurd (cc)
      go true false e = refl
      go false y e = refl

  pub taken_some : (block : List ℕ) → Some block ≡ moved d at s from → kind_of block ≡ taken_of d at s from
  unfolding taken_of
  taken_some block e = go (stands (length d) at) (stands (length s) from) e
    where
      go : (x y : Bool) → Some block ≡ (if x then (if y then Some (take 16 (drop from s)) else None) else None)
          → kind_of block ≡ (if x then (if y then kind_of (take 16 (drop from s)) else Nothing) else Nothing)
      go true true e = let q : block ≡ take 16 (drop from s) = cc in ap kind_of q
      go true false e = absurd (cc)
      go false y e = absurd (cc)

  pub taken-fits : at + 16 ≤ length d → from + 16 ≤ length s → taken_of d at s from ≡ kind_of (take 16 (drop from s))
  unfolding taken_of
  taken-fits h k = rw (le-leb (at + 16) (length d) h, le-leb (from + 16) (length s) k)

-- ---- what the kinds say, where sixteen bytes stand in both

module _ (s : List ℕ) (from : ℕ) (h : from + 16 ≤ length s) where
  kind_zeros : kind_of (take 16 (drop from s)) ≡ Zeros → each (λ b. eqb b 0) (take 16 (drop from s)) ≡ true
  kind_zeros e = go (each (λ b. eqb b 0) (take 16 (drop from s))) (each (λ b. not (eqb b 0)) (take 16 (drop from s))) e
    where
      go : (x y : Bool) → (if x then Zeros else if y then Clear else Mixed) ≡ Zeros → x ≡ true
      go true y e = refl
      go false true e = absurd (cc)
      go false false e = absurd (cc)

  kind_clear : kind_of (take 16 (drop from s)) ≡ Clear → each (λ b. not (eqb b 0)) (take 16 (drop from s)) ≡ true
  kind_clear e = go (each (λ b. eqb b 0) (take 16 (drop from s))) (each (λ b. not (eqb b 0)) (take 16 (drop from s))) e
    where
      go : (x y : Bool) → (if x then Zeros else if y then Clear else Mixed) ≡ Clear → y ≡ true
      go true y e = absurd (cc)
      go false true e = refl
      go false false e = absurd (cc)

  module _ (d : List ℕ) (at : ℕ) (k : at + 16 ≤ length d) where
    -- the same that `clear16` and `all16` would say
    pub taken_is_clear : taken_of d at s from ≡ Clear → is_clear s from ≡ true
    unfolding is_clear
    taken_is_clear e = rw (le-leb (from + 16) (length s) h) (kind_clear (sym (taken-fits d at s from k h) ∙ e))

    pub taken_is_zeros : taken_of d at s from ≡ Zeros → is_all 0 s from ≡ true
    unfolding is_all
    taken_is_zeros e = rw (le-leb (from + 16) (length s) h) (kind_zeros (sym (taken-fits d at s from k h) ∙ e))
