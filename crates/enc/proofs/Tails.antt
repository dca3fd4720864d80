-- A whole run at a place of the source, and the encoding from there on. Assumes nothing.
use mathlib.Core.Path.{◌≡◌, sym, ap, ◌∙◌}
use mathlib.Core.List.{List, [], ◌∷◌, ◌++◌, append-nil}
use Prim.Native.Nat.{ℕ, zero, suc, ◌+◌, ◌-◌, ◌≤◌, ◌<◌, suc-le-suc}
use native.Mathlib.Nat.{le_of_suc-le-suc}
use native.Mathlib.Omega.{arith}
use lib.ListN.{length, get_or, take, drop, length-drop}
use lib.Seq.{get_or-drop, drop-cons, drop-drop, length-take-le, take_all, split_at}
use Rattle.cobs.specs.Code.{NoZero, encode}
use Rattle.cobs.proofs.Groups.{encode-last, encode-full, encode-cut}

-- The n bytes of s from i on are a whole run.
pub record RunAt (s : List ℕ) (i n : ℕ) : Type 0 where
  pub few : n ≤ 254
  pub within : i + n ≤ length s
  pub clean : (k : ℕ) → k < n → get_or s (i + k) 0 ≡ 0 → ⊥
  pub stops : n < 254 → i + n < length s → get_or s (i + n) 0 ≡ 0

no_zero_take : (n : ℕ) (m : List ℕ) → n ≤ length m → ((k : ℕ) → k < n → get_or m k 0 ≡ 0 → ⊥) → NoZero (take n m)
no_zero_take zero m h f = tt
no_zero_take (suc n) [] h f = tt
no_zero_take (suc n) (b ∷ m) h f =
    (let z : b ≡ 0 → ⊥ = f 0 (omega arith) in omega arith, no_zero_take n m (le_of_suc-le-suc h) (λ k l. f (suc k) (suc-le-suc l)))

module _ (s : List ℕ) (i n : ℕ) (r : RunAt s i n) where
  abbrev m : List ℕ
  m = drop i s

  size : length m ≡ length s - i
  size = length-drop i s

  long : length (take n m) ≡ n
  long = length-take-le n m (omega (arith, size, r.within))

  clean : NoZero (take n m)
  clean = no_zero_take n m (omega (arith, size, r.within)) (λ k l q. r.clean k l (sym (get_or-drop i s k 0) ∙ q))

  -- at the source's end
  pub tail_end : i + n ≡ length s → encode m ≡ suc n ∷ (take n m ++ [])
  tail_end q =
      let a : take n m ≡ m = take_all n m (omega (arith, size)) in
      ap encode (sym a) ∙ encode-last (take n m) clean (omega (arith, long, r.few)) ∙ rw (long, append-nil)

  -- full, with more behind it
  pub tail_full : i + n < length s → n ≡ 254 → encode m ≡ suc n ∷ (take n m ++ encode (drop (i + n) s))
  tail_full l q =
      let c : drop n m ≡ get_or m n 0 ∷ drop (suc n) m = drop-cons m n 0 (omega (arith, size)) in
      let e : m ≡ take n m ++ (get_or m n 0 ∷ drop (suc n) m) = split_at m n 0 (omega (arith, size)) in
      ap encode e ∙ encode-full (take n m) clean (long ∙ q) (get_or m n 0) (drop (suc n) m)
      ∙ ap (λ (t : List ℕ). 255 ∷ (take n m ++ encode t)) (sym c ∙ drop-drop n i s)
      ∙ ap (λ (k : ℕ). suc k ∷ (take n m ++ encode (drop (i + n) s))) (sym q)

  -- before a zero
  pub tail_cut : i + n < length s → n < 254 → encode m ≡ suc n ∷ (take n m ++ encode (drop (i + n + 1) s))
  tail_cut l q =
      let z : get_or m n 0 ≡ 0 = get_or-drop i s n 0 ∙ r.stops q l in
      let e : m ≡ take n m ++ (0 ∷ drop (suc n) m) =
      split_at m n 0 (omega (arith, size)) ∙ ap (λ (b : ℕ). take n m ++ (b ∷ drop (suc n) m)) z in
      let k : i + suc n ≡ i + n + 1 = omega arith in
      ap encode e ∙ encode-cut (take n m) clean (omega (arith, long)) (drop (suc n) m)
      ∙ ap (λ (j : ℕ). suc j ∷ (take n m ++ encode (drop (suc n) m))) long
      ∙ ap (λ (t : List ℕ). suc n ∷ (take n m ++ encode t)) (drop-drop (suc n) i s ∙ ap (λ (j : ℕ). drop j s) k)
