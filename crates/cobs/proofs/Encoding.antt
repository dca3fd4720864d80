-- Every encoding: no byte is zero, there is one at least, and how many there are. Assumes nothing.
use mathlib.Core.Path.{◌≡◌, refl}
use mathlib.Core.List.{List, ◌∷◌}
use Prim.Native.Nat.{ℕ, zero, suc, ◌+◌, ◌/◌, ◌≤◌, ◌<◌, max, zero-le, suc-le-suc}
use native.Mathlib.Omega.{arith}
use lib.ListN.{length, length-append}
use Rattle.cobs.specs.Code.{NoZero, encode, overhead, max_length}
use Rattle.cobs.proofs.Runs.{no_zero_append}
use Rattle.cobs.proofs.Groups.{by-groups, encode-last, encode-full, encode-cut}

pub encode_no_zero : (m : List ℕ) → NoZero (encode m)
encode_no_zero =
    by-groups (λ m. NoZero (encode m))
    (λ r h k. rw (encode-last r h k) (suc-le-suc zero-le, h))
    (λ r h k a s ih. rw (encode-full r h k a s) (suc-le-suc zero-le, no_zero_append r (encode (a ∷ s)) h ih))
    (λ r h k s ih. rw (encode-cut r h k s) (suc-le-suc zero-le, no_zero_append r (encode s) h ih))

pub encode_nonempty : (m : List ℕ) → 0 < length (encode m)
encode_nonempty =
    by-groups (λ m. 0 < length (encode m))
    (λ r h k. rw (encode-last r h k) (suc-le-suc zero-le))
    (λ r h k a s ih. rw (encode-full r h k a s) (suc-le-suc zero-le))
    (λ r h k s ih. rw (encode-cut r h k s) (suc-le-suc zero-le))

-- longer than the message
pub encode_longer : (m : List ℕ) → length m < length (encode m)
encode_longer =
    by-groups (λ m. length m < length (encode m))
    (λ r h k. rw (encode-last r h k) (omega arith))
    (λ r h k a s ih. rw (encode-full r h k a s, length-append r (encode (a ∷ s)), length-append r (a ∷ s)) (omega arith))
    (λ r h k s ih. rw (encode-cut r h k s, length-append r (encode s), length-append r (0 ∷ s)) (omega arith))

-- one byte for each 254 begun, one at least: the overhead in a form that arithmetic takes
pub overhead-max : (n : ℕ) → overhead n ≡ max 1 ((n + 253) / 254)
overhead-max zero = refl
overhead-max (suc n) = omega arith

pub encode-length : (m : List ℕ) → length (encode m) ≤ max_length (length m)
encode-length =
    by-groups (λ m. length (encode m) ≤ max_length (length m))
    (λ r h k. rw (encode-last r h k, overhead-max (length r)) (omega arith))
    (λ r h k a s ih.
    rw (encode-full r h k a s, length-append r (encode (a ∷ s)), length-append r (a ∷ s), overhead-max (length r + length (a ∷ s)))
    (omega (arith, overhead-max (length (a ∷ s)))))
    (λ r h k s ih.
    rw (encode-cut r h k s, length-append r (encode s), length-append r (0 ∷ s), overhead-max (length r + length {A = ℕ} (0 ∷ s)))
    (omega (arith, overhead-max (length s))))
