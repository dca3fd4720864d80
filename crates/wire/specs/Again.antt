-- A call made again and again over the pieces that come, each on what the call before it left; whatever the call is.
-- Assumes nothing.
use Rattle.std.specs.Prelude.{List, [], ◌∷◌, ◌++◌, ℕ, zero, suc, length, drop, eqb, if◌then◌else◌}
use Rattle.cobs.specs.Answers.{Told, more}

-- What a call comes to: what it leaves, what it answers, and how many bytes of the piece it took.
pub record Received (W : Type 0) : Type 0 where
  pub side : W
  pub answer : Told
  pub consumed : ℕ

-- An answer, and what is seen of what the call left.
pub record Said (View : Type 0) : Type 0 where
  pub answer : Told
  pub shown : View

-- What was said, but for More, in order; what is left; and how many calls were made.
pub record Run (W View : Type 0) : Type 0 where
  pub said : List (Said View)
  pub side : W
  pub calls : ℕ

module _ {W View : Type 0} where
  -- No call more.
  abbrev pub stopped : (calls : ℕ) → W → Run W View
  stopped k w = record { said = []; side = w; calls = k }

  -- What a call said, and what the calls after it say.
  abbrev pub heard : Told → View → Run W View → Run W View
  heard t v r =
      if eqb t.number more.number then r
      else record { said = record { answer = t; shown = v } ∷ r.said; side = r.side; calls = r.calls }

  -- A run, and one that goes on from where it stopped.
  abbrev pub and_then : Run W View → (ℕ → W → Run W View) → Run W View
  and_then r go =
      record { said = r.said ++ (go r.calls r.side).said; side = (go r.calls r.side).side; calls = (go r.calls r.side).calls }

-- `call k` is call number k, and `shows` what is seen of what it leaves.
module _ {W View : Type 0} (call : (k : ℕ) → W → (piece : List ℕ) → Received W) (shows : W → View) where
  -- One piece: calls while bytes of it are left, each on what the call before it left; n calls at most.
  unfoldable pub run_in : (n k : ℕ) → W → (piece : List ℕ) → Run W View
  run_in zero k w piece = stopped k w
  run_in (suc n) k w [] = stopped k w
  run_in (suc n) k w (b ∷ piece) =
      heard (call k w (b ∷ piece)).answer (shows (call k w (b ∷ piece)).side)
      (run_in n (suc k) (call k w (b ∷ piece)).side (drop (call k w (b ∷ piece)).consumed (b ∷ piece)))

  -- As many calls as the piece has bytes are enough where each takes a byte or more. A BadState takes none.
  unfoldable pub run : (k : ℕ) → W → (piece : List ℕ) → Run W View
  run k w piece = run_in (length piece) k w piece

  -- Piece after piece.
  unfoldable pub drive : (k : ℕ) → W → (pieces : List (List ℕ)) → Run W View
  drive k w [] = stopped k w
  drive k w (piece ∷ pieces) = and_then (run k w piece) (λ k' w'. drive k' w' pieces)

-- The pieces' bytes, one after another.
abbrev pub joined : List (List ℕ) → List ℕ
joined [] = []
joined (piece ∷ pieces) = piece ++ joined pieces
