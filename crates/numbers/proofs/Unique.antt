-- Two results that meet a call's promise are equal. Assumes nothing.
use mathlib.Core.Path.{◌≡◌, sym, ◌∙◌}
use mathlib.Core.List.{List}
use Prim.Native.Nat.{ℕ}
use Rattle.std.specs.Prelude.{Option}
use Rattle.wire.specs.declared.Wire.{Wire}
use Rattle.numbers.specs.Numbers.{read_of, written_to}

pub unique-read : (numbers : List ℕ) (r s : Option Wire) → r ≡ read_of numbers → s ≡ read_of numbers → r ≡ s
unique-read numbers r s p q = p ∙ sym q

pub unique-write : (w : Wire) (numbers x y : List ℕ) → x ≡ written_to numbers w → y ≡ written_to numbers w → x ≡ y
unique-write w numbers x y p q = p ∙ sym q
