-- What the private functions promise. No public promise cites it. Assumes nothing.
use Rattle.std.specs.Prelude.{◌≡◌, Bool, List, ℕ, length, take, drop, Option, None, Some, if◌then◌else◌}
use Rattle.blocks.specs.Blocks.{stands}

-- The sixteen bytes at `at`, where they stand.
abbrev pub block_at : List ℕ → (at : ℕ) → Option (List ℕ)
block_at s at = if stands (length s) at then Some (take 16 (drop at s)) else None

-- The bytes that a copy takes, where they stand in both.
abbrev pub moved : (d : List ℕ) (at : ℕ) (s : List ℕ) (from : ℕ) → Option (List ℕ)
moved d at s from = if stands (length d) at then block_at s from else None

-- A test answers what p says.
abbrev pub Gives : (post : ℕ → Bool → Type 0) (p : ℕ → Bool) → Type 0
Gives post p = (b : ℕ) (answer : Bool) → post b answer → answer ≡ p b
