-- A word that definitions here are written with. Assumes nothing.
use Rattle.std.specs.Prelude.{Bool, ℕ, ltb}

infix 4 ◌exceeds◌
-- More than.
abbrev pub ◌exceeds◌ : ℕ → ℕ → Bool
n exceeds limit = ltb limit n
