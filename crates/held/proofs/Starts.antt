-- What an encoder that could not start does afterwards. Assumes nothing.
use mathlib.Core.Path.{◌≡◌, refl}
use mathlib.Core.Bool.{true}
use mathlib.Core.List.{List}
use Prim.Native.Nat.{ℕ}
use lib.ListN.{length}
use denote.Ref.{MutBor}
use Rattle.cobs.specs.Answers.{bad_state}
use Rattle.enc.specs.Stream.{fresh, is_bad, push_told, push_next, push_dest, finish_told, finish_dest}
use Rattle.held.specs.Held.{over, pushed}

-- The slice has length 0, and every call is a BadState that changes nothing.
module _ (x : MutBor (List ℕ)) (empty : length x.now ≡ 0) where
  pub refused-bad : is_bad fresh (length x.now) ≡ true
  unfolding is_bad
  refused-bad = rw empty refl

  pub refused-told : (piece : List ℕ) → push_told fresh piece (length x.now) ≡ bad_state
  unfolding push_told
  refused-told piece = rw refused-bad refl

  pub refused-push : (piece : List ℕ) → pushed (over x) piece ≡ over x
  unfolding push_next push_dest
  refused-push piece = rw (refused-told piece) refl

  pub refused-finalize : (finish_told fresh (length x.now) ≡ bad_state) × (finish_dest fresh x.now ≡ x.now)
  unfolding finish_told finish_dest
  refused-finalize = rw refused-bad (refl, refl)
