-- Laws of `marked_below`: how many of the indices below n are marked. Assumes nothing.
use mathlib.Core.Path.{◌≡◌, ap, ◌∙◌}
use mathlib.Core.Bool.{false}
use mathlib.Core.List.{List}
use Prim.Native.Nat.{ℕ, ◌+◌, ◌-◌, ◌≤◌, ◌<◌}
use native.Mathlib.Omega.{arith}
use lib.ListN.{length}
use Rattle.marks.specs.Marks.{marked, no_marks, set_mark, count_below, marked_below}
use Rattle.marks.proofs.Counts.{count_add, count-both, count-new, count_none}
use Rattle.marks.proofs.Marks.{marked-out, none-marked, set-mark-here, set-mark-other}

-- The indices from n on, below m.
from : (ws : List ℕ) (n m : ℕ) → n ≤ m → marked_below ws m ≡ marked_below ws n + count_below (λ s. marked ws (n + s)) (m - n)
unfolding marked_below
from ws n m h = ap (count_below (marked ws)) {x = m} {y = n + (m - n)} (omega arith) ∙ count_add (marked ws) n (m - n)

-- ---- Bounds

pub below_le : (ws : List ℕ) (n : ℕ) → marked_below ws n ≤ n
unfolding marked_below
below_le ws n = omega (arith, count-both (marked ws) n)

pub below_mono : (ws : List ℕ) (n m : ℕ) → n ≤ m → marked_below ws n ≤ marked_below ws m
below_mono ws n m h = omega (arith, from ws n m h)

pub below_none : (n : ℕ) → marked_below no_marks n ≡ 0
unfolding marked_below
below_none n = count_none (marked no_marks) n (λ j h. none-marked j)

-- ---- Setting a mark

pub below_new : (ws : List ℕ) (i n : ℕ) → length ws ≡ 64 → i < 4096 → i < n → marked ws i ≡ false
    → marked_below (set_mark ws i) n ≡ marked_below ws n + 1
unfolding marked_below
below_new ws i n l h b e =
    count-new (marked ws) (marked (set_mark ws i)) i n b e (set-mark-here ws i l h) (set-mark-other ws i)

-- ---- No marks from n on: no more of them below m than below n

pub from-none : (ws : List ℕ) (n m : ℕ) → n ≤ m → ((j : ℕ) → n ≤ j → j < m → marked ws j ≡ false) → marked_below ws m ≤ marked_below ws n
from-none ws n m h none =
    omega
    (arith, from ws n m h, count_none (λ s. marked ws (n + s)) (m - n) (λ s k. none (n + s) (omega arith) (omega arith)))

-- There are no marks past 4,096.
pub below-past : (ws : List ℕ) (n : ℕ) → length ws ≡ 64 → 4096 ≤ n → marked_below ws n ≡ marked_below ws 4096
below-past ws n l h =
    omega (arith, below_mono ws 4096 n h, from-none ws 4096 n h (λ j a b. marked-out ws j l a))
