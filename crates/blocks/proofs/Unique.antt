-- Two results that meet a function's promise are equal, for every public function. Assumes nothing.
use mathlib.Core.Path.{◌≡◌, sym, ◌∙◌}
use mathlib.Core.Bool.{Bool}
use mathlib.Core.List.{List}
use Prim.Native.Nat.{ℕ}
use Rattle.blocks.specs.declared.Taken.{Taken}
use Rattle.blocks.specs.Blocks.{is_clear, is_all, copied, taken_of, filled, masked_front}

pub unique-clear16 : (s : List ℕ) (at : ℕ) (a b : Bool) → a ≡ is_clear s at → b ≡ is_clear s at → a ≡ b
unique-clear16 s at a b p q = p ∙ sym q

pub unique-all16 : (s : List ℕ) (at v : ℕ) (a b : Bool) → a ≡ is_all v s at → b ≡ is_all v s at → a ≡ b
unique-all16 s at v a b p q = p ∙ sym q

pub unique-take16 : (d : List ℕ) (at : ℕ) (s : List ℕ) (from : ℕ) (r t : Taken) (a b : List ℕ) → r ≡ taken_of d at s from → t ≡ taken_of d at s from
    → a ≡ copied d at s from → b ≡ copied d at s from → (r ≡ t) × (a ≡ b)
unique-take16 d at s from r t a b p q x y = (p ∙ sym q, x ∙ sym y)

pub unique-copy16 : (d : List ℕ) (at : ℕ) (s : List ℕ) (from : ℕ) (a b : List ℕ) → a ≡ copied d at s from → b ≡ copied d at s from → a ≡ b
unique-copy16 d at s from a b p q = p ∙ sym q

pub unique-fill16 : (d : List ℕ) (at v : ℕ) (a b : List ℕ) → a ≡ filled d at v → b ≡ filled d at v → a ≡ b
unique-fill16 d at v a b p q = p ∙ sym q

pub unique-mask : (d : List ℕ) (n sentinel : ℕ) (a b : List ℕ) → a ≡ masked_front sentinel n d → b ≡ masked_front sentinel n d → a ≡ b
unique-mask d n sentinel a b p q = p ∙ sym q
