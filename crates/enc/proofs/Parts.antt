-- Parts of a buffer: a copy pasted into it, two parts with the same bytes, and a group behind a front. Assumes nothing.
use mathlib.Core.Path.{◌≡◌, sym, ap, ◌∙◌}
use mathlib.Core.List.{List, [], ◌∷◌, ◌++◌}
use Prim.Native.Nat.{ℕ, ◌+◌, ◌-◌, ◌≤◌, ◌<◌}
use native.Mathlib.Numerals.{add-one}
use native.Mathlib.Omega.{arith}
use lib.ListN.{length, get_or, take, drop, length-drop, get_or-append}
use lib.Seq.{paste, take-paste, drop-paste, get_or-drop, get_or-take, drop-drop, length-take-le, take-add, take-take, take-suc, take-append-le, ext_get_or, get_or-append-add, append_snoc}

-- the bytes of s from `from` on, k of them, stand in d at `at`
abbrev pub Same : (s : List ℕ) (from : ℕ) (d : List ℕ) (at n : ℕ) → Type 0
Same s from d at n = (k : ℕ) → k < n → get_or d (at + k) 0 ≡ get_or s (from + k) 0

part_same : (s : List ℕ) (from : ℕ) (d : List ℕ) (at n : ℕ) → from + n ≤ length s → at + n ≤ length d → Same s from d at n
    → take n (drop at d) ≡ take n (drop from s)
part_same s from d at n hs hd f =
    let ls : length (take n (drop from s)) ≡ n = length-take-le n (drop from s) (omega (arith, length-drop from s)) in
    let ld : length (take n (drop at d)) ≡ n = length-take-le n (drop at d) (omega (arith, length-drop at d)) in
    ext_get_or 0 (take n (drop at d)) (take n (drop from s)) (ld ∙ sym ls)
    (λ k h.
    let h' : k < n = omega arith in
    get_or-take n (drop at d) k 0 h' ∙ get_or-drop at d k 0 ∙ f k h' ∙ sym (get_or-take n (drop from s) k 0 h' ∙ get_or-drop from s k 0))

-- a code and its group behind the front
pub group-front : (d : List ℕ) (place c run start : ℕ) (s : List ℕ) → place + 1 + run ≤ length d → start + run ≤ length s
    → get_or d place 0 ≡ c → Same s start d (place + 1) run
    → take (place + 1 + run) d ≡ take place d ++ (c ∷ take run (drop start s))
group-front d place c run start s hd hs q f =
    take-add (place + 1) run d
    ∙ ap (λ (u : List ℕ). take (place + 1) d ++ u) (part_same s start d (place + 1) run hs hd f)
    ∙ ap (λ (u : List ℕ). u ++ take run (drop start s))
    (ap (λ (j : ℕ). take j d) (add-one place) ∙ take-suc d place 0 (omega arith) ∙ ap (λ (x : ℕ). take place d ++ (x ∷ [])) q)
    ∙ append_snoc (take place d) c (take run (drop start s))

-- ---- a copy of n bytes of t, at `at`

module _ (d : List ℕ) (at : ℕ) (t : List ℕ) (n : ℕ) (hd : at + n ≤ length d) (ht : n ≤ length t) where
  size : length (take at d) ≡ at
  size = length-take-le at d (omega arith)

  head : take (at + n) (paste d at t n) ≡ take at d ++ take n t
  head = take-paste d at t n (omega arith) ht

  pub paste-before : (k : ℕ) → k < at → get_or (paste d at t n) k 0 ≡ get_or d k 0
  paste-before k h =
      sym (get_or-take (at + n) (paste d at t n) k 0 (omega arith))
      ∙ ap (λ (l : List ℕ). get_or l k 0) head
      ∙ get_or-append (take at d) (take n t) 0 k (omega (arith, size))
      ∙ get_or-take at d k 0 h

  pub paste_in : (k : ℕ) → k < n → get_or (paste d at t n) (at + k) 0 ≡ get_or t k 0
  paste_in k h =
      sym (get_or-take (at + n) (paste d at t n) (at + k) 0 (omega arith))
      ∙ ap (λ (l : List ℕ). get_or l (at + k) 0) head
      ∙ ap (λ (j : ℕ). get_or (take at d ++ take n t) (j + k) 0) (sym size)
      ∙ get_or-append-add (take at d) (take n t) k 0
      ∙ get_or-take n t k 0 h

  pub paste-take : (k : ℕ) → k ≤ at → take k (paste d at t n) ≡ take k d
  paste-take k h =
      sym (take-take k (at + n) (paste d at t n) (omega arith))
      ∙ ap (take k) head
      ∙ take-append-le k (take at d) (take n t) (omega (arith, size))
      ∙ take-take k at d h

  pub paste-drop : (k : ℕ) → at + n ≤ k → drop k (paste d at t n) ≡ drop k d
  paste-drop k h =
      let e : at + n + (k - (at + n)) ≡ k = omega arith in
      ap (λ (j : ℕ). drop j (paste d at t n)) (sym e)
      ∙ sym (drop-drop (k - (at + n)) (at + n) (paste d at t n))
      ∙ ap (drop (k - (at + n))) (drop-paste d at t n (omega arith) ht)
      ∙ drop-drop (k - (at + n)) (at + n) d
      ∙ ap (λ (j : ℕ). drop j d) e
