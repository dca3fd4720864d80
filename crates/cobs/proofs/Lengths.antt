-- What the answer for a length says of the number asked about, on plain values. Assumes nothing.
use Rattle.std.specs.Prelude.{if◌then◌else◌}
use mathlib.Core.Path.{◌≡◌, refl, ap}
use mathlib.Core.Bool.{Bool, true, false}
use Prim.Native.Nat.{ℕ, ◌+◌, ◌≤◌, ◌<◌}
use native.Mathlib.Omega.{arith}
use borrow.Author.Tests.{le-ltb, lt-ltb, ltb-true, ltb-false}
use Rattle.cobs.specs.Words.{◌exceeds◌}
use Rattle.cobs.specs.Code.{overhead, max_length}
use Rattle.cobs.specs.Answers.{Told, done, too_long, longest}
use Rattle.cobs.specs.Lengths.{overhead_told, length_told}
use Rattle.cobs.proofs.Told.{unlike}

-- each way through `max_encoding_overhead`
pub overhead-long : (n : ℕ) → longest < n → too_long ≡ overhead_told n
unfolding overhead_told
overhead-long n h = rw (lt-ltb longest n h)

pub overhead-short : (n v : ℕ) → n ≤ longest → v ≡ overhead n → done v 0 ≡ overhead_told n
unfolding overhead_told
overhead-short n v h e = rw (le-ltb longest n h, e)

-- which way the number went, for either function: v is what it gives for a number that is not too long
module _ (n v : ℕ) where
  ok-says : (w : ℕ) → done w 0 ≡ (if n exceeds longest then too_long else done v 0) → (n ≤ longest) × (w ≡ v)
  ok-says w = go (n exceeds longest) refl
    where
      go : (t : Bool) → (n exceeds longest) ≡ t → done w 0 ≡ (if t then too_long else done v 0) → (n ≤ longest) × (w ≡ v)
      go true t e = absurd (unlike e (λ z. omega arith))
      go false t e = (ltb-false longest n t, ap (λ (x : Told). x.first) e)

  err-says : too_long ≡ (if n exceeds longest then too_long else done v 0) → longest < n
  err-says = go (n exceeds longest) refl
    where
      go : (t : Bool) → (n exceeds longest) ≡ t → too_long ≡ (if t then too_long else done v 0) → longest < n
      go true t e = ltb-true longest n t
      go false t e = absurd (unlike e (λ z. omega arith))

module _ (n : ℕ) where
  pub overhead_ok : (v : ℕ) → done v 0 ≡ overhead_told n → (n ≤ longest) × (v ≡ overhead n)
  unfolding overhead_told
  overhead_ok = ok-says n (overhead n)

  pub length_ok : (v : ℕ) → done v 0 ≡ length_told n → (n ≤ longest) × (v ≡ max_length n)
  unfolding length_told
  length_ok = ok-says n (max_length n)

  pub length_err : too_long ≡ length_told n → longest < n
  unfolding length_told
  length_err = err-says n (max_length n)

  -- each way through `max_encoding_length`
  pub length-long : too_long ≡ overhead_told n → too_long ≡ length_told n
  unfolding overhead_told length_told
  length-long q = rw (lt-ltb longest n (err-says n (overhead n) q))

  pub length-short : (v : ℕ) → done v 0 ≡ overhead_told n → done (n + v) 0 ≡ length_told n
  unfolding length_told
  length-short v q =
      let h = overhead_ok v q in
      rw (le-ltb longest n h.0, h.1)
