-- Two calls that answer alike on sides that are alike say the same when they are made again and again. Assumes nothing.
use mathlib.Core.Path.{◌≡◌, refl, ap, ap₂}
use mathlib.Core.List.{List, [], ◌∷◌, ◌++◌}
use Prim.Native.Nat.{ℕ, zero, suc}
use lib.Dec.{eqb}
use lib.ListN.{length, drop}
use Rattle.cobs.specs.Answers.{Told, more}
use Rattle.dec.proofs.Cases.{by_bool}
use Rattle.wire.specs.Again.{Received, Said, Run, heard, run_in, run, drive}

-- What two calls come to, on sides that are alike afterwards.
pub record Same {W W' : Type 0} (like : W → W' → Type 0) (r : Received W) (s : Received W') : Type 0 where
  pub answers : r.answer ≡ s.answer
  pub takings : r.consumed ≡ s.consumed
  pub sides : like r.side s.side

-- What two runs said, and the sides they left.
pub record AlikeTo {W W' View : Type 0} (like : W → W' → Type 0) (r : Run W View) (s : Run W' View) : Type 0 where
  pub said : r.said ≡ s.said
  pub calls : r.calls ≡ s.calls
  pub sides : like r.side s.side

-- Each piece is one of those on which the calls are alike.
abbrev pub Each : (Piece : List ℕ → Type 0) → List (List ℕ) → Type 0
Each Piece [] = Unit {0}
Each Piece (p ∷ ps) = Piece p × Each Piece ps

-- `Piece` says on which pieces the calls are alike; what is left of one is one again.
module _ {W W' View : Type 0} (like : W → W' → Type 0) (Piece : List ℕ → Type 0) (rest : (p : List ℕ) (n : ℕ) → Piece p → Piece (drop n p))
    (call : (k : ℕ) → W → List ℕ → Received W) (call' : (k : ℕ) → W' → List ℕ → Received W')
    (same : (k : ℕ) (w : W) (v : W') → like w v → (p : List ℕ) → Piece p → Same like (call k w p) (call' k v p))
    (shows : W → View) (shows' : W' → View) (shown : (w : W) (v : W') → like w v → shows w ≡ shows' v) where
  heard-same : (t : Told) (x : View) (r : Run W View) (s : Run W' View) → AlikeTo like r s → AlikeTo like (heard t x r) (heard t x s)
  heard-same t x r s a =
      by_bool (eqb t.number more.number) (λ e. rw e a)
      (λ e. rw e (record { said = ap (λ (l : List (Said View)). record { answer = t; shown = x } ∷ l) a.said; calls = a.calls; sides = a.sides }))

  run-same : (n k : ℕ) (w : W) (v : W') → like w v → (p : List ℕ) → Piece p → AlikeTo like (run_in call shows n k w p) (run_in call' shows' n k v p)
  unfolding run_in
  run-same zero k w v l p h = record { said = refl; calls = refl; sides = l }
  run-same (suc n) k w v l [] h = record { said = refl; calls = refl; sides = l }
  run-same (suc n) k w v l (b ∷ p) h =
      let r : Received W = call k w (b ∷ p) in
      let s : Received W' = call' k v (b ∷ p) in
      let c : Same like r s = same k w v l (b ∷ p) h in
      rw (c.answers, c.takings, shown r.side s.side c.sides)
      (heard-same s.answer (shows' s.side) _ _
      (run-same n (suc k) r.side s.side c.sides (drop s.consumed (b ∷ p)) (rest (b ∷ p) s.consumed h)))

  pub drive-same : (ps : List (List ℕ)) → Each Piece ps → (k : ℕ) (w : W) (v : W') → like w v → AlikeTo like (drive call shows k w ps) (drive call' shows' k v ps)
  unfolding drive run
  drive-same [] h k w v l = record { said = refl; calls = refl; sides = l }
  drive-same (p ∷ ps) h k w v l =
      let a = run-same (length p) k w v l p h.0 in
      let b = drive-same ps h.1 (run call shows k w p).calls (run call shows k w p).side (run call' shows' k v p).side a.sides in
      rw (← a.calls) (record { said = ap₂ (λ (x y : List (Said View)). x ++ y) a.said b.said; calls = b.calls; sides = b.sides })
