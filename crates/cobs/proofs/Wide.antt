-- Bytes stay bytes: parts of a list, one with a byte stored, and an encoding. Assumes nothing.
use mathlib.Core.Bool.{Bool, true, false}
use mathlib.Core.List.{List, [], ◌∷◌}
use Prim.Native.Nat.{ℕ, zero, suc, ◌≤◌, ◌<◌}
use native.Mathlib.Omega.{arith}
use lib.Dec.{eqb}
use lib.ListN.{length, get_or, set, take, drop, replicate}
use Rattle.cobs.specs.Code.{Bytes, run, group, encode_in, encode}
use Rattle.cobs.proofs.Runs.{each_append, length_run}

pub bytes-at : (s : List ℕ) → Bytes s → (k : ℕ) → get_or s k 0 < 256
bytes-at [] h k = omega arith
bytes-at (b ∷ s) h zero = h.0
bytes-at (b ∷ s) h (suc k) = bytes-at s h.1 k

pub bytes_take : (s : List ℕ) (n : ℕ) → Bytes s → Bytes (take n s)
bytes_take s zero h = tt
bytes_take [] (suc n) h = tt
bytes_take (b ∷ s) (suc n) h = (h.0, bytes_take s n h.1)

pub bytes_drop : (s : List ℕ) (n : ℕ) → Bytes s → Bytes (drop n s)
bytes_drop s zero h = h
bytes_drop [] (suc n) h = tt
bytes_drop (b ∷ s) (suc n) h = bytes_drop s n h.1

pub bytes-set : (s : List ℕ) (i b : ℕ) → b < 256 → Bytes s → Bytes (set s i b)
bytes-set [] i b l h = tt
bytes-set (x ∷ s) zero b l h = (l, h.1)
bytes-set (x ∷ s) (suc i) b l h = (h.0, bytes-set s i b l h.1)

pub bytes-zeros : (n : ℕ) → Bytes (replicate n 0)
bytes-zeros zero = tt
bytes-zeros (suc n) = (omega arith, bytes-zeros n)

-- ---- an encoding

run-bytes : (n : ℕ) (m : List ℕ) → Bytes m → Bytes (run n m)
run-bytes zero m h = tt
run-bytes (suc n) [] h = tt
run-bytes (suc n) (zero ∷ m) h = tt
run-bytes (suc n) (suc b ∷ m) h = (h.0, run-bytes n m h.1)

module _ (go : List ℕ → List ℕ) (goes : (m : List ℕ) → Bytes m → Bytes (go m)) where
  group-bytes : (full : Bool) (r after : List ℕ) → Bytes r → length r ≤ 254 → Bytes after → Bytes (group go full r after)
  group-bytes true r [] g l h = (omega arith, g)
  group-bytes true r (b ∷ rest) g l h = (omega arith, each_append (λ b. b < 256) r (go (b ∷ rest)) g (goes (b ∷ rest) h))
  group-bytes false r (z ∷ rest) g l h = (omega arith, each_append (λ b. b < 256) r (go rest) g (goes rest h.1))
  group-bytes false r [] g l h = (omega arith, g)

groups-bytes : (n : ℕ) (m : List ℕ) → Bytes m → Bytes (encode_in n m)
unfolding encode_in
groups-bytes zero m h = tt
groups-bytes (suc n) m h =
    let r : List ℕ = run 254 m in
    group-bytes (encode_in n) (groups-bytes n) (eqb (length r) 254) r (drop (length r) m) (run-bytes 254 m h) (length_run 254 m) (bytes_drop m (length r) h)

pub encode-bytes : (m : List ℕ) → Bytes m → Bytes (encode m)
unfolding encode
encode-bytes m h = groups-bytes (suc (length m)) m h
