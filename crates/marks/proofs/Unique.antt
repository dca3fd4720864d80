-- Two results that meet a function's promise are equal, for every public function: the answer, or the words behind the `&mut`.
-- Assumes nothing.
use mathlib.Core.Path.{◌≡◌, sym, ◌∙◌}
use mathlib.Core.Bool.{Bool}
use mathlib.Core.List.{List}
use Prim.Native.Nat.{ℕ}
use Rattle.marks.specs.Marks.{no_marks, marked, set_mark, marked_below}

pub unique-none : (r s : List ℕ) → r ≡ no_marks → s ≡ no_marks → r ≡ s
unique-none r s p q = p ∙ sym q

pub unique-is_marked : (words : List ℕ) (i : ℕ) (r s : Bool) → r ≡ marked words i → s ≡ marked words i → r ≡ s
unique-is_marked words i r s p q = p ∙ sym q

pub unique-mark : (words : List ℕ) (i : ℕ) (r s : List ℕ) → r ≡ set_mark words i → s ≡ set_mark words i → r ≡ s
unique-mark words i r s p q = p ∙ sym q

pub unique-count : (words : List ℕ) (r s : ℕ) → r ≡ marked_below words 4096 → s ≡ marked_below words 4096 → r ≡ s
unique-count words r s p q = p ∙ sym q

pub unique-count_below : (words : List ℕ) (n r s : ℕ) → r ≡ marked_below words n → s ≡ marked_below words n → r ≡ s
unique-count_below words n r s p q = p ∙ sym q
