-- The encoding's length, counted: a zero less than 254 bytes on lets no group before it grow full. Assumes nothing.
use mathlib.Core.Path.{◌≡◌, refl, sym, ap, ◌∙◌, subst}
use mathlib.Core.Bool.{true}
use mathlib.Core.List.{List, [], ◌∷◌, ◌++◌, append-nil, append_assoc}
use Prim.Native.Nat.{ℕ, zero, suc, ◌+◌, ◌-◌, ◌≤◌, ◌<◌, suc-le-suc, zero-le}
use native.Mathlib.Omega.{arith}
use lib.ListN.{length, get_or, take, drop, length-append, length-drop}
use lib.Seq.{length-take-le, split_at, get_or-drop, get_or-take, drop-drop}
use Rattle.cobs.specs.Code.{NoZero, encode}
use Rattle.cobs.proofs.Runs.{no_zero_append}
use Rattle.cobs.proofs.Groups.{encode-last, encode-cut}
use Rattle.blocks.specs.Blocks.{is_clear}
use Rattle.blocks.proofs.Blocks.{clear_says}
use Rattle.enc.specs.Fast.{AfterLastZero}
use Rattle.enc.proofs.Deciding.{by_lt}
use Rattle.enc.proofs.Tails.{RunAt, tail_full}

-- the bytes a before a zero, behind an open group's r
before_zero : (r a t : List ℕ) → NoZero r → length r + length a < 254 → length (encode (r ++ (a ++ 0 ∷ t))) ≡ length r + length a + 1 + length (encode t)
before_zero r [] t h l = rw (encode-cut r h (omega arith) t, length-append r (encode t)) (omega arith)
before_zero r (zero ∷ a) t h l =
    rw (encode-cut r h (omega arith) (a ++ 0 ∷ t), length-append r (encode (a ++ 0 ∷ t)), before_zero [] a t tt (omega arith)) (omega arith)
before_zero r (suc b ∷ a) t h l =
    let e : length (r ++ suc b ∷ []) ≡ length r + 1 = length-append r (suc b ∷ []) in
    ap (λ (s : List ℕ). length (encode s)) (sym (append_assoc r (suc b ∷ []) (a ++ 0 ∷ t)))
    ∙ before_zero (r ++ suc b ∷ []) a t (no_zero_append r (suc b ∷ []) h (suc-le-suc zero-le, tt)) (omega (arith, e)) ∙ omega (arith, e)

-- a message that no full group with more behind it can be in
few_bytes : (r a : List ℕ) → NoZero r → length r + length a ≤ 254 → length (encode (r ++ a)) ≡ length r + length a + 1
few_bytes r [] h l = rw (append-nil r, encode-last r h (omega arith)) (omega arith)
few_bytes r (zero ∷ a) h l = rw (encode-cut r h (omega arith) a, length-append r (encode a), few_bytes [] a tt (omega arith)) (omega arith)
few_bytes r (suc b ∷ a) h l =
    let e : length (r ++ suc b ∷ []) ≡ length r + 1 = length-append r (suc b ∷ []) in
    ap (λ (s : List ℕ). length (encode s)) (sym (append_assoc r (suc b ∷ []) a))
    ∙ few_bytes (r ++ suc b ∷ []) a (no_zero_append r (suc b ∷ []) h (suc-le-suc zero-le, tt)) (omega (arith, e)) ∙ omega (arith, e)

-- ---- from a place of the source

module _ (s : List ℕ) (i : ℕ) where
  pub count-last : length s ≤ i + 254 → i ≤ length s → length (encode (drop i s)) ≡ length s - i + 1
  count-last h k = few_bytes [] (drop i s) tt (omega (arith, length-drop i s)) ∙ omega (arith, length-drop i s)

  -- a zero before j
  pub count_zero : (j : ℕ) → i < j → j ≤ i + 254 → j ≤ length s → get_or s (j - 1) 0 ≡ 0 → length (encode (drop i s)) ≡ j - i + length (encode (drop j s))
  count_zero j h few k z =
      let n : ℕ = j - 1 - i in
      let l : length (take n (drop i s)) ≡ n = length-take-le n (drop i s) (omega (arith, length-drop i s)) in
      let at : i + n ≡ j - 1 = omega arith in
      let next : i + suc n ≡ j = omega arith in
      let e : drop i s ≡ take n (drop i s) ++ 0 ∷ drop j s =
      split_at (drop i s) n 0 (omega (arith, length-drop i s))
      ∙ rw (get_or-drop i s n 0, at, z, drop-drop (suc n) i s, next) in
      ap (λ (t : List ℕ). length (encode t)) e ∙ before_zero [] (take n (drop i s)) (drop j s) tt (omega (arith, l)) ∙ omega (arith, l)

  -- none among 254, and more behind them
  pub count-full : i + 254 < length s → ((k : ℕ) → i ≤ k → k < i + 254 → get_or s k 0 ≡ 0 → ⊥)
      → length (encode (drop i s)) ≡ 255 + length (encode (drop (i + 254) s))
  count-full h nz =
      let r : RunAt s i 254 =
      record { few = omega arith; within = omega arith; clean = λ k l. nz (i + k) (omega arith) (omega arith); stops = λ l m. absurd (omega arith) }
      in
      ap length (tail_full s i 254 r h refl)
      ∙ ap suc (length-append (take 254 (drop i s)) (encode (drop (i + 254) s)))
      ∙ omega (arith, length-take-le 254 (drop i s) (omega (arith, length-drop i s)))

-- ---- no zero from a to b, a growing less

abbrev pub Clean : (s : List ℕ) (a b : ℕ) → Type 0
Clean s a b = (k : ℕ) → a ≤ k → k < b → get_or s k 0 ≡ 0 → ⊥

pub clean-sixteen : (s : List ℕ) (a b : ℕ) → 16 ≤ a → Clean s a b → is_clear s (a - 16) ≡ true → Clean s (a - 16) b
clean-sixteen s a b h c q k l m =
    by_lt k a
    (λ g. subst (λ (j : ℕ). get_or s j 0 ≡ 0 → ⊥) (omega arith) ((clear_says s (a - 16) q).1 (k - (a - 16)) (omega arith)))
    (λ g. c k g m)

-- ---- the last zero from a to b, with none from b to c

module _ (s : List ℕ) (a b c : ℕ) (h : a ≤ b) (l : b ≤ c) (w : c ≤ length s) (none : Clean s b c) where
  in-part : (k : ℕ) → a ≤ k → k < b → get_or (take (b - a) (drop a s)) (k - a) 0 ≡ get_or s k 0
  in-part k m n = get_or-take (b - a) (drop a s) (k - a) 0 (omega arith) ∙ get_or-drop a s (k - a) 0 ∙ ap (λ (j : ℕ). get_or s j 0) (omega arith)

  long : length (take (b - a) (drop a s)) ≡ b - a
  long = length-take-le (b - a) (drop a s) (omega (arith, length-drop a s))

  -- none in the part either, from its place i on
  clean-part : (i : ℕ) → ((j : ℕ) → i ≤ j → j < length (take (b - a) (drop a s)) → get_or (take (b - a) (drop a s)) j 0 ≡ 0 → ⊥) → Clean s (a + i) c
  clean-part i f k m n q =
      by_lt k b (λ g. f (k - a) (omega arith) (omega (arith, long)) (in-part k (omega arith) g ∙ q)) (λ g. none k g n q)

  pub last-zero : (k : ℕ) → k < length (take (b - a) (drop a s)) → get_or (take (b - a) (drop a s)) k 0 ≡ 0
      → ((j : ℕ) → k + 1 ≤ j → j < length (take (b - a) (drop a s)) → get_or (take (b - a) (drop a s)) j 0 ≡ 0 → ⊥) → AfterLastZero s a c (a + k + 1)
  last-zero k m z f =
      record {
        after = omega arith;
        before = omega (arith, long);
        clean = λ j o. clean-part (k + 1) f j (omega arith);
        stops = λ o. ap (λ (j : ℕ). get_or s j 0) (omega arith) ∙ sym (in-part (a + k) (omega arith) (omega (arith, long)))
            ∙ ap (λ (j : ℕ). get_or (take (b - a) (drop a s)) j 0) (omega arith) ∙ z;
      }

  pub no-zero : ((j : ℕ) → j < length (take (b - a) (drop a s)) → get_or (take (b - a) (drop a s)) j 0 ≡ 0 → ⊥) → AfterLastZero s a c a
  no-zero f =
      record { after = omega arith; before = omega arith; clean = λ j o. clean-part 0 (λ i _. f i) j (omega arith); stops = λ o. absurd (omega arith) }
