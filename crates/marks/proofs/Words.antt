-- Laws of counting word by word, as the code counts. Assumes nothing.
use mathlib.Core.Path.{◌≡◌, sym, ap, ap₂, ◌∙◌}
use mathlib.Core.List.{List, [], ◌∷◌}
use Rattle.std.specs.Prelude.{sum_by}
use Prim.Native.Nat.{ℕ, suc, ◌+◌, ◌*◌, ◌/◌, ◌%◌, ◌≤◌, ◌<◌}
use native.Mathlib.Omega.{arith}
use Rattle.std.proofs.lemmas.List.Sums.{sum_by-cons}
use Rattle.marks.proofs.Below.{below_le}
use lib.ListN.{length, get_or, take}
use lib.Seq.{get_or-take, length-take-le}
use Rattle.marks.specs.Marks.{bit_at, marked, count_below, marked_below}
use Rattle.marks.proofs.Counts.{count_same, count_add}

bit_of_word : (ws : List ℕ) (k s : ℕ) → s < 64 → marked ws (64 * k + s) ≡ bit_at (get_or ws k 0) s
unfolding marked
bit_of_word ws k s h =
    let word : (64 * k + s) / 64 ≡ k = omega arith in
    let place : (64 * k + s) % 64 ≡ s = omega arith in
    ap₂ (λ (x y : ℕ). bit_at (get_or ws x 0) y) word place

first_word : (w : ℕ) (ws : List ℕ) (t : ℕ) → t < 64 → marked (w ∷ ws) t ≡ bit_at w t
unfolding marked
first_word w ws t h =
    let word : t / 64 ≡ 0 = omega arith in
    let place : t % 64 ≡ t = omega arith in
    ap₂ (λ (x y : ℕ). bit_at (get_or (w ∷ ws) x 0) y) word place

later_word : (w : ℕ) (ws : List ℕ) (s : ℕ) → marked (w ∷ ws) (64 + s) ≡ marked ws s
unfolding marked
later_word w ws s =
    let word : (64 + s) / 64 ≡ suc (s / 64) = omega arith in
    let place : (64 + s) % 64 ≡ s % 64 = omega arith in
    ap₂ (λ (x y : ℕ). bit_at (get_or (w ∷ ws) x 0) y) word place

one_word_more : (w : ℕ) (ws : List ℕ) (n : ℕ) → count_below (bit_at w) 64 + marked_below ws (64 * n) ≡ marked_below (w ∷ ws) (64 * suc n)
unfolding marked_below
one_word_more w ws n =
    ap₂ ◌+◌
    (sym (count_same (marked (w ∷ ws)) (bit_at w) 64 (λ t h. first_word w ws t h)))
    (sym (count_same (λ s. marked (w ∷ ws) (64 + s)) (marked ws) (64 * n) (λ s h. later_word w ws s)))
    ∙ sym (count_add (marked (w ∷ ws)) 64 (64 * n))
    ∙ ap (count_below (marked (w ∷ ws))) {x = 64 + 64 * n} {y = 64 * suc n} (omega arith)

-- The first k words, and s bits of the next.
pub words_and_bits : (ws : List ℕ) (k s : ℕ) → s ≤ 64 → marked_below ws (64 * k + s) ≡ marked_below ws (64 * k) + count_below (bit_at (get_or ws k 0)) s
unfolding marked_below
words_and_bits ws k s h =
    count_add (marked ws) (64 * k) s
    ∙ ap (λ (x : ℕ). count_below (marked ws) (64 * k) + x)
    (count_same (λ t. marked ws (64 * k + t)) (bit_at (get_or ws k 0)) s (λ t b. bit_of_word ws k t (omega arith)))

-- Word by word, from the first.
pub words_counted : (ws : List ℕ) → sum_by (λ w. count_below (bit_at w) 64) ws ≡ marked_below ws (64 * length ws)
words_counted [] = sym (none [])
  where
    none : (ws : List ℕ) → marked_below ws (64 * 0) ≡ 0
    none ws = omega (arith, below_le ws (64 * 0))
words_counted (w ∷ ws) =
    sum_by-cons (λ w. count_below (bit_at w) 64) w ws
    ∙ ap (λ (x : ℕ). count_below (bit_at w) 64 + x) (words_counted ws)
    ∙ one_word_more w ws (length ws)

-- The first k words alone.
pub front_counted : (ws : List ℕ) (k : ℕ) → k ≤ length ws → sum_by (λ w. count_below (bit_at w) 64) (take k ws) ≡ marked_below ws (64 * k)
unfolding marked_below marked
front_counted ws k h =
    words_counted (take k ws)
    ∙ ap (λ (n : ℕ). count_below (marked (take k ws)) (64 * n)) (length-take-le k ws h)
    ∙ count_same (marked (take k ws)) (marked ws) (64 * k) (λ j l. ap (λ (w : ℕ). bit_at w (j % 64)) (get_or-take k ws (j / 64) 0 (omega arith)))

-- The whole words below n, and the rest.
pub words_and_rest : (ws : List ℕ) (n whole w rest : ℕ) → whole ≡ marked_below ws (64 * (n / 64)) → w ≡ get_or ws (n / 64) 0 → rest ≡ count_below (bit_at w) (n % 64)
    → whole + rest ≡ marked_below ws n
words_and_rest ws n whole w rest a b e =
    ap₂ ◌+◌ a (e ∙ ap (λ (x : ℕ). count_below (bit_at x) (n % 64)) b)
    ∙ sym (words_and_bits ws (n / 64) (n % 64) (omega arith))
    ∙ ap (marked_below ws) {x = 64 * (n / 64) + n % 64} {y = n} (omega arith)
