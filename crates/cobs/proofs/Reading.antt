-- A body group by group: induction over its codes, the equations of `read`, which hide its count, and the round trip. Assumes nothing.
use mathlib.Core.Path.{◌≡◌, refl, sym, ap, ◌∙◌, subst}
use mathlib.Core.Bool.{Bool, true, false, true≢false}
use mathlib.Core.List.{List, [], ◌∷◌, ◌++◌, append-nil, append_assoc}
use Prim.Native.Nat.{ℕ, zero, suc, pred, ◌+◌, ◌≤◌, ◌<◌, zero-le, suc-le-suc}
use native.Mathlib.Nat.{not-suc-le-zero, le_refl, suc-add}
use native.Mathlib.Decide.{dec_lt}
use native.Mathlib.Omega.{arith}
use lib.ListN.{length, take, drop, length-append, take-append-drop}
use lib.Dec.{eqb}
use lib.Seq.{length-take-le, take_at, drop_at, drop-length, drop-append-add}
use borrow.Author.Tests.{ne_eqb, lt-ltb, le-ltb}
use Rattle.cobs.specs.Code.{NoZero, encode, cut, ended, onto, zero_after, read_in, read}
use Rattle.cobs.proofs.Runs.{no_zero_back}
use Rattle.cobs.proofs.Groups.{by-groups, encode-last, encode-full, encode-cut}
use Rattle.cobs.proofs.Encoding.{encode_nonempty}

-- What holds of no body, of a short group, of a last group, and of a group before more, holds of every body.
module _ (P : List ℕ → Type 0) (empty : P []) (short : (c : ℕ) (s : List ℕ) → length s < pred c → P (c ∷ s))
    (last : (c : ℕ) (r : List ℕ) → length r ≡ pred c → P (c ∷ r))
    (more : (c : ℕ) (r : List ℕ) → length r ≡ pred c → (d : ℕ) (s : List ℕ) → P (d ∷ s) → P (c ∷ (r ++ d ∷ s))) where
  -- a group and what follows it, shorter bodies known
  turn : (f : ℕ) → ((b : List ℕ) → length b ≤ f → P b) → (c : ℕ) (r t : List ℕ) → length r ≡ pred c → length (r ++ t) ≤ f → P (c ∷ (r ++ t))
  turn f ih c r [] k l = subst (λ (s : List ℕ). P (c ∷ s)) (sym (append-nil r)) (last c r k)
  turn f ih c r (d ∷ s) k l = more c r k d s (ih (d ∷ s) (omega (arith, length-append r (d ∷ s))))

  upto : (f : ℕ) (b : List ℕ) → length b ≤ f → P b
  upto zero [] l = empty
  upto zero (c ∷ s) l = absurd (not-suc-le-zero l)
  upto (suc f) [] l = empty
  upto (suc f) (c ∷ s) l =
      elim (dec_lt (length s) (pred c)) [
        | yes h ↦ short c s h
        | no h ↦
            let e : take (pred c) s ++ drop (pred c) s ≡ s = take-append-drop (pred c) s in
            subst (λ (t : List ℕ). P (c ∷ t)) e
            (turn f (upto f) c (take (pred c) s) (drop (pred c) s) (length-take-le (pred c) s (omega arith)) (rw e (omega arith)))
      ]

  pub by_codes : (b : List ℕ) → P b
  by_codes b = upto (length b) b (le_refl (length b))

-- ---- each case of the reading, with a count

short_in : (n c : ℕ) (s : List ℕ) → length s < pred c → read_in (suc n) (c ∷ s) ≡ cut s
unfolding read_in
short_in n c s h = rw (lt-ltb (length s) (pred c) h)

last_in : (n c : ℕ) (r : List ℕ) → length r ≡ pred c → read_in (suc n) (c ∷ r) ≡ ended r
unfolding read_in
last_in n c r k = rw (← k, le-ltb (length r) (length r) (le_refl (length r)), drop-length r)

more_in : (n c : ℕ) (r : List ℕ) → length r ≡ pred c → (d : ℕ) (s : List ℕ)
    → read_in (suc n) (c ∷ (r ++ d ∷ s)) ≡ onto (r ++ zero_after c) c (read_in n (d ∷ s))
unfolding read_in
more_in n c r k d s =
    rw (le-ltb (length (r ++ d ∷ s)) (pred c) (omega (arith, length-append r (d ∷ s))), drop_at r (d ∷ s) (pred c) k, take_at r (d ∷ s) (pred c) k)

-- ---- every count from the length on gives the same

abbrev Same : List ℕ → Type 0
Same b = (f g : ℕ) → length b ≤ f → length b ≤ g → read_in f b ≡ read_in g b

same_empty : Same []
unfolding read_in
same_empty zero zero l₁ l₂ = refl
same_empty zero (suc g) l₁ l₂ = refl
same_empty (suc f) zero l₁ l₂ = refl
same_empty (suc f) (suc g) l₁ l₂ = refl

-- both counts are at least 1
both : (c : ℕ) (s : List ℕ) → ((f g : ℕ) → length s ≤ f → length s ≤ g → read_in (suc f) (c ∷ s) ≡ read_in (suc g) (c ∷ s)) → Same (c ∷ s)
both c s h zero g l₁ l₂ = absurd (not-suc-le-zero l₁)
both c s h (suc f) zero l₁ l₂ = absurd (not-suc-le-zero l₂)
both c s h (suc f) (suc g) l₁ l₂ = h f g (omega arith) (omega arith)

same : (b : List ℕ) → Same b
same =
    by_codes Same same_empty
    (λ c s h. both c s (λ f g l₁ l₂. short_in f c s h ∙ sym (short_in g c s h)))
    (λ c r k. both c r (λ f g l₁ l₂. last_in f c r k ∙ sym (last_in g c r k)))
    (λ c r k d s ih.
    both c (r ++ d ∷ s)
    (λ f g l₁ l₂.
    rw (more_in f c r k d s, more_in g c r k d s, ih f g (omega (arith, length-append r (d ∷ s))) (omega (arith, length-append r (d ∷ s))))))

-- ---- the equations of `read`

-- no group
pub read_empty : read [] ≡ cut []
unfolding read read_in
read_empty = refl

-- a group with too few bytes after its code
pub read_short : (c : ℕ) (s : List ℕ) → length s < pred c → read (c ∷ s) ≡ cut s
unfolding read
read_short c s h = short_in (length s) c s h

-- a last group
pub read-last : (c : ℕ) (r : List ℕ) → length r ≡ pred c → read (c ∷ r) ≡ ended r
unfolding read
read-last c r k = last_in (length r) c r k

-- a group, and more after it
pub read_more : (c : ℕ) (r : List ℕ) → length r ≡ pred c → (d : ℕ) (s : List ℕ)
    → read (c ∷ (r ++ d ∷ s)) ≡ onto (r ++ zero_after c) c (read (d ∷ s))
unfolding read
read_more c r k d s =
    more_in (length (r ++ d ∷ s)) c r k d s
    ∙ ap (onto (r ++ zero_after c) c) (same (d ∷ s) (length (r ++ d ∷ s)) (length (d ∷ s)) (omega (arith, length-append r (d ∷ s))) (le_refl (length (d ∷ s))))

read-on : (c : ℕ) (r s : List ℕ) → length r ≡ pred c → 0 < length s → read (c ∷ (r ++ s)) ≡ onto (r ++ zero_after c) c (read s)
read-on c r [] k h = absurd (not-suc-le-zero h)
read-on c r (d ∷ s) k h = read_more c r k d s

-- ---- the round trip

pub read-encode : (m : List ℕ) → read (encode m) ≡ ended m
read-encode =
    by-groups (λ m. read (encode m) ≡ ended m)
    (λ r h k. ap read (encode-last r h k) ∙ read-last (suc (length r)) r refl)
    (λ r h k a s ih.
    ap read (encode-full r h k a s)
    ∙ read-on 255 r (encode (a ∷ s)) k (encode_nonempty (a ∷ s))
    ∙ rw (ih, append-nil r))
    (λ r h k s ih.
    ap read (encode-cut r h k s)
    ∙ read-on (suc (length r)) r (encode s) refl (encode_nonempty s)
    ∙ rw (ih, ne_eqb (suc (length r)) 255 (omega arith), append_assoc r (0 ∷ []) s))

-- ---- decoded bytes are fewer than the body's

zero_after_le : (c : ℕ) → length (zero_after c) ≤ 1
zero_after_le c = go (eqb c 255) refl
  where
    go : (t : Bool) → eqb c 255 ≡ t → length (zero_after c) ≤ 1
    go true e = rw e zero-le
    go false e = rw e (le_refl 1)

abbrev Fewer : List ℕ → Type 0
Fewer b = 0 < length b → length (read b).groups + length (read b).short < length b

pub read-fewer : (b : List ℕ) → Fewer b
read-fewer =
    by_codes Fewer (λ k. absurd (not-suc-le-zero k))
    (λ c s h k. rw (read_short c s h) (omega arith))
    (λ c r h k. rw (read-last c r h) (omega arith))
    (λ c r h d s ih k.
    rw (read_more c r h d s)
    (omega (arith, ih (suc-le-suc zero-le), length-append r (d ∷ s), length-append (r ++ zero_after c) (read (d ∷ s)).groups, length-append r (zero_after c), zero_after_le c)))

-- ---- the offset of a short group: there its code stands, with too few bytes after it

abbrev ShortAt : List ℕ → Type 0
ShortAt b = NoZero b → 0 < length b → (read b).whole ≡ false
    → (c : ℕ) × ((drop (read b).offset b ≡ c ∷ (read b).short) × (length (read b).short < pred c))

short-more : (c : ℕ) (r : List ℕ) → length r ≡ pred c → (d : ℕ) (s : List ℕ) → ShortAt (d ∷ s) → ShortAt (c ∷ (r ++ d ∷ s))
short-more zero r k d s ih z h e = absurd (not-suc-le-zero z.0)
short-more (suc n) r k d s ih z h e =
    let w : (read (d ∷ s)).whole ≡ false = rw (read_more (suc n) r k d s) at e in
    let t = ih (no_zero_back r (d ∷ s) z.1) (suc-le-suc zero-le) w in
    rw (read_more (suc n) r k d s, w)
    (t.0, (ap (λ (m : ℕ). drop m (suc n ∷ (r ++ d ∷ s))) (suc-add n (read (d ∷ s)).offset) ∙ ap (λ (m : ℕ). drop (m + (read (d ∷ s)).offset) (r ++ d ∷ s)) (sym k) ∙ drop-append-add r (d ∷ s) (read (d ∷ s)).offset ∙ t.1.0, t.1.1))

pub read-offset : (b : List ℕ) → ShortAt b
read-offset =
    by_codes ShortAt (λ z h e. absurd (not-suc-le-zero h))
    (λ c s l z h e. rw (read_short c s l) (c, (refl, l)))
    (λ c r k z h e. absurd (true≢false (rw (read-last c r k) at e)))
    short-more

-- ---- a closing 01 after a last full group

-- The body's last group is whole, and its code is FF.
pub data EndsFull : List ℕ → Type 0 where
  last : (r : List ℕ) → length r ≡ 254 → EndsFull (255 ∷ r)
  more : (c : ℕ) (r : List ℕ) → length r ≡ pred c → (d : ℕ) (s : List ℕ) → EndsFull (d ∷ s) → EndsFull (c ∷ (r ++ d ∷ s))

-- is accepted and adds nothing
pub read-closing : {b : List ℕ} → EndsFull b → read (b ++ 1 ∷ []) ≡ read b
read-closing (last r k) =
    read_more 255 r k 1 []
    ∙ rw (read-last 1 [] refl, append-nil (r ++ []), append-nil r) (sym (read-last 255 r k))
read-closing (more c r k d s full) =
    ap (λ (t : List ℕ). read (c ∷ t)) (append_assoc r (d ∷ s) (1 ∷ []))
    ∙ read_more c r k d (s ++ 1 ∷ [])
    ∙ ap (onto (r ++ zero_after c) c) (read-closing full)
    ∙ sym (read_more c r k d s)
