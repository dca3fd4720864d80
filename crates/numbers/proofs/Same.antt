-- Two lists of numbers held against each other, place by place. Assumes nothing.
use mathlib.Core.Path.{◌≡◌, refl, sym, ap, ap₂, ◌∙◌}
use mathlib.Core.Bool.{true, false, true≢false}
use mathlib.Core.List.{List, [], ◌∷◌}
use Prim.Native.Nat.{ℕ}
use lib.Dec.{eqb}
use lib.ListN.{length, take}
use borrow.Author.Tests.{eq-eqb, eqb-true}
use Rattle.std.specs.List.{starts_with}
use Rattle.std.specs.Cmp.Lexicographic.{same_text, other_text}
use Rattle.dec.proofs.Cases.{by_bool}
use Rattle.numbers.specs.Numbers.{same}

-- lists that are the same are equal, and a list is the same as itself
pub same_equal : (s t : List ℕ) → same s t ≡ true → s ≡ t
same_equal [] [] e = refl
same_equal [] (y ∷ t) e = absurd (true≢false (sym e))
same_equal (x ∷ s) [] e = absurd (true≢false (sym e))
same_equal (x ∷ s) (y ∷ t) e =
    by_bool (eqb x y)
    (λ q. ap₂ ◌∷◌ (eqb-true x y q) (same_equal s t (rw q at e)))
    (λ q. absurd (true≢false (sym (rw q at e))))

pub same-itself : (s : List ℕ) → same s s ≡ true
same-itself [] = refl
same-itself (x ∷ s) = rw (eq-eqb x x refl) (same-itself s)

-- what `starts_with` says of a head of ten
module _ (ns h : List ℕ) (ten : length h ≡ 10) where
  ahead : take (length h) ns ≡ take 10 ns
  ahead = ap (λ (n : ℕ). take n ns) ten

  pub starts_yes : starts_with eqb ns h ≡ true → same (take 10 ns) h ≡ true
  starts_yes e = ap (same (take 10 ns)) (same_text h (take (length h) ns) (sym e) ∙ ahead) ∙ same-itself (take 10 ns)

  pub starts_no : starts_with eqb ns h ≡ false → same (take 10 ns) h ≡ false
  starts_no e =
      by_bool (same (take 10 ns) h)
      (λ q. absurd (other_text h (take (length h) ns) (sym e) (sym (same_equal (take 10 ns) h q) ∙ sym ahead)))
      (λ q. q)
