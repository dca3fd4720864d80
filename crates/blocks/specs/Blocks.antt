-- Sixteen bytes at a time, and a front XORed. Assumes nothing.
use Rattle.std.specs.Prelude.{Bool, true, false, not, ◌&&◌, List, [], ◌∷◌, ◌++◌, ℕ, ◌+◌, eqb, leb, length, take, drop, replicate, if◌then◌else◌}
use Rattle.std.proofs.Math.Seq.{paste}
use Rattle.cobs.specs.Code.{masked}
use Rattle.blocks.specs.declared.Taken.{Taken}
use Rattle.blocks.specs.declared.Taken.TheVariants.{Nothing, Clear, Zeros, Mixed}

-- Sixteen bytes stand at `at` among n.
abbrev pub stands : (n at : ℕ) → Bool
stands n at = leb (at + 16) n

-- The test p holds of each byte.
abbrev pub each : (p : ℕ → Bool) → List ℕ → Bool
each p [] = true
each p (b ∷ s) = p b && each p s

-- Sixteen bytes stand at `at`, and p holds of each.
abbrev pub sixteen : (p : ℕ → Bool) → List ℕ → (at : ℕ) → Bool
sixteen p s at = if stands (length s) at then each p (take 16 (drop at s)) else false

-- None is zero.
unfoldable pub is_clear : List ℕ → (at : ℕ) → Bool
is_clear s at = sixteen (λ b. not (eqb b 0)) s at

-- Each is v.
unfoldable pub is_all : (v : ℕ) → List ℕ → (at : ℕ) → Bool
is_all v s at = sixteen (λ b. eqb b v) s at

-- Buffer d with the sixteen bytes of s from `from` on at `at`, where they stand in both.
unfoldable pub copied : (d : List ℕ) (at : ℕ) (s : List ℕ) (from : ℕ) → List ℕ
copied d at s from = if stands (length d) at then (if stands (length s) from then paste d at (drop from s) 16 else d) else d

-- What sixteen bytes are.
abbrev pub kind_of : (block : List ℕ) → Taken
kind_of block = if each (λ b. eqb b 0) block then Zeros else if each (λ b. not (eqb b 0)) block then Clear else Mixed

-- The same of those that a copy takes, where they stand in both.
unfoldable pub taken_of : (d : List ℕ) (at : ℕ) (s : List ℕ) (from : ℕ) → Taken
taken_of d at s from =
    if stands (length d) at then (if stands (length s) from then kind_of (take 16 (drop from s)) else Nothing) else Nothing

-- Buffer d with sixteen times v at `at`, where they stand.
unfoldable pub filled : (d : List ℕ) (at v : ℕ) → List ℕ
filled d at v = if stands (length d) at then paste d at (replicate 16 v) 16 else d

-- Buffer d with its first n bytes XORed.
unfoldable pub masked_front : (sentinel n : ℕ) → List ℕ → List ℕ
masked_front sentinel n d = masked sentinel (take n d) ++ drop n d
