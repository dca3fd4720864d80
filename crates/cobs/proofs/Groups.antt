-- A message group by group: induction over its groups, and the equations of `encode`, which hide its count. Assumes nothing.
use mathlib.Core.Path.{◌≡◌, refl, sym, ap, ◌∙◌, subst}
use mathlib.Core.Bool.{Bool, true, false}
use mathlib.Core.List.{List, [], ◌∷◌, ◌++◌, append-nil}
use Prim.Native.Nat.{ℕ, zero, suc, ◌≤◌, ◌<◌, zero-le}
use native.Mathlib.Nat.{not-suc-le-zero, le_refl}
use native.Mathlib.Decide.{dec_le}
use native.Mathlib.Omega.{arith}
use lib.ListN.{length, drop, length-append}
use lib.Seq.{drop-length, drop-append_seam}
use lib.Dec.{eqb}
use borrow.Author.Tests.{eq-eqb, ne_eqb, eqb-true}
use Rattle.cobs.specs.Code.{NoZero, run, group, encode_in, encode}
use Rattle.cobs.proofs.Runs.{no_zero_run, length_run, run-front, run-stops, run-all, run_zero, run-full}

-- What holds of a last run, of a full run before more, and of a shorter run before a zero, holds of every message.
module _ (P : List ℕ → Type 0)
    (last : (r : List ℕ) → NoZero r → length r ≤ 254 → P r)
    (full : (r : List ℕ) → NoZero r → length r ≡ 254 → (a : ℕ) (s : List ℕ) → P (a ∷ s) → P (r ++ a ∷ s))
    (cut : (r : List ℕ) → NoZero r → length r < 254 → (s : List ℕ) → P s → P (r ++ 0 ∷ s)) where
  -- a run and what follows it, shorter messages known
  turn : (f : ℕ) → ((m : List ℕ) → length m ≤ f → P m) → (r t : List ℕ) → NoZero r → length r ≤ 254
      → ((b : ℕ) (s : List ℕ) → t ≡ suc b ∷ s → length r ≡ 254) → length (r ++ t) ≤ suc f → P (r ++ t)
  turn f ih r [] h k stop l = subst P (sym (append-nil r)) (last r h k)
  turn f ih r (zero ∷ s) h k stop l =
      elim (dec_le 254 (length r)) [
        | yes w ↦ full r h (omega arith) 0 s (ih (0 ∷ s) (omega (arith, length-append r (0 ∷ s))))
        | no w ↦ cut r h (omega arith) s (ih s (omega (arith, length-append r (0 ∷ s))))
      ]
  turn f ih r (suc b ∷ s) h k stop l =
      let e : length r ≡ 254 = stop b s refl in
      full r h e (suc b) s (ih (suc b ∷ s) (omega (arith, length-append r (suc b ∷ s))))

  upto : (f : ℕ) (m : List ℕ) → length m ≤ f → P m
  upto zero [] l = last [] tt zero-le
  upto zero (b ∷ m) l = absurd (not-suc-le-zero l)
  upto (suc f) m l =
      let e : run 254 m ++ drop (length (run 254 m)) m ≡ m = run-front 254 m in
      subst P e
      (turn f (upto f) (run 254 m) (drop (length (run 254 m)) m) (no_zero_run 254 m) (length_run 254 m) (run-stops 254 m)
      (subst (λ (s : List ℕ). length s ≤ suc f) (sym e) l))

  pub by-groups : (m : List ℕ) → P m
  by-groups m = upto (length m) m (le_refl (length m))

-- ---- each case of the encoding, with a count

group-end : (go : List ℕ → List ℕ) (full : Bool) (r : List ℕ) → eqb (length r) 254 ≡ full → group go full r [] ≡ suc (length r) ∷ r
group-end go true r e = ap (λ (n : ℕ). suc n ∷ r) (sym (eqb-true (length r) 254 e))
group-end go false r e = refl

last_in : (n : ℕ) (r : List ℕ) → NoZero r → length r ≤ 254 → encode_in (suc n) r ≡ suc (length r) ∷ r
unfolding encode_in
last_in n r h k = rw (run-all 254 r h k, drop-length r) (group-end (encode_in n) (eqb (length r) 254) r refl)

full_in : (n : ℕ) (r : List ℕ) → NoZero r → length r ≡ 254 → (a : ℕ) (s : List ℕ)
    → encode_in (suc n) (r ++ a ∷ s) ≡ 255 ∷ (r ++ encode_in n (a ∷ s))
unfolding encode_in
full_in n r h k a s =
    let e : run 254 (r ++ a ∷ s) ≡ r = subst (λ (l : ℕ). run l (r ++ a ∷ s) ≡ r) k (run-full r (a ∷ s) h) in
    rw (e, drop-append_seam r (a ∷ s), eq-eqb (length r) 254 k)

cut_in : (n : ℕ) (r : List ℕ) → NoZero r → length r < 254 → (s : List ℕ)
    → encode_in (suc n) (r ++ 0 ∷ s) ≡ suc (length r) ∷ (r ++ encode_in n s)
unfolding encode_in
cut_in n r h k s =
    rw (run_zero 254 r s h (omega arith), drop-append_seam r (0 ∷ s), ne_eqb (length r) 254 (omega arith))

-- ---- every count above the length gives the same

abbrev Same : List ℕ → Type 0
Same m = (f g : ℕ) → length m < f → length m < g → encode_in f m ≡ encode_in g m

same-last : (r : List ℕ) → NoZero r → length r ≤ 254 → Same r
same-last r h k zero g l₁ l₂ = absurd (not-suc-le-zero l₁)
same-last r h k (suc f) zero l₁ l₂ = absurd (not-suc-le-zero l₂)
same-last r h k (suc f) (suc g) l₁ l₂ = last_in f r h k ∙ sym (last_in g r h k)

same_full : (r : List ℕ) → NoZero r → length r ≡ 254 → (a : ℕ) (s : List ℕ) → Same (a ∷ s) → Same (r ++ a ∷ s)
same_full r h k a s ih zero g l₁ l₂ = absurd (not-suc-le-zero l₁)
same_full r h k a s ih (suc f) zero l₁ l₂ = absurd (not-suc-le-zero l₂)
same_full r h k a s ih (suc f) (suc g) l₁ l₂ =
    rw (full_in f r h k a s, full_in g r h k a s, ih f g (omega (arith, length-append r (a ∷ s))) (omega (arith, length-append r (a ∷ s))))

same-cut : (r : List ℕ) → NoZero r → length r < 254 → (s : List ℕ) → Same s → Same (r ++ 0 ∷ s)
same-cut r h k s ih zero g l₁ l₂ = absurd (not-suc-le-zero l₁)
same-cut r h k s ih (suc f) zero l₁ l₂ = absurd (not-suc-le-zero l₂)
same-cut r h k s ih (suc f) (suc g) l₁ l₂ =
    rw (cut_in f r h k s, cut_in g r h k s, ih f g (omega (arith, length-append r (0 ∷ s))) (omega (arith, length-append r (0 ∷ s))))

enough : (m : List ℕ) (n : ℕ) → length m < n → encode_in n m ≡ encode m
unfolding encode
enough m n l = by-groups Same same-last same_full same-cut m n (suc (length m)) l (le_refl (suc (length m)))

-- ---- the equations of `encode`

-- a last run, also one of 254
pub encode-last : (r : List ℕ) → NoZero r → length r ≤ 254 → encode r ≡ suc (length r) ∷ r
unfolding encode
encode-last r h k = last_in (length r) r h k

-- a full run, and more after it
pub encode-full : (r : List ℕ) → NoZero r → length r ≡ 254 → (a : ℕ) (s : List ℕ) → encode (r ++ a ∷ s) ≡ 255 ∷ (r ++ encode (a ∷ s))
unfolding encode
encode-full r h k a s =
    full_in (length (r ++ a ∷ s)) r h k a s ∙ rw (enough (a ∷ s) (length (r ++ a ∷ s)) (omega (arith, length-append r (a ∷ s))))

-- a shorter run, and a zero
pub encode-cut : (r : List ℕ) → NoZero r → length r < 254 → (s : List ℕ) → encode (r ++ 0 ∷ s) ≡ suc (length r) ∷ (r ++ encode s)
unfolding encode
encode-cut r h k s =
    cut_in (length (r ++ 0 ∷ s)) r h k s ∙ rw (enough s (length (r ++ 0 ∷ s)) (omega (arith, length-append r (0 ∷ s))))
