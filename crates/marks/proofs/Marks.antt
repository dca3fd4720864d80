-- Laws of marks and of setting one, index by index. Assumes nothing.
use mathlib.Core.Path.{◌≡◌, refl}
use mathlib.Core.Logic.{◌≢◌}
use mathlib.Core.Bool.{true, false}
use mathlib.Core.List.{List}
use Prim.Native.Nat.{ℕ, zero, suc, ◌/◌, ◌%◌, ◌≤◌, ◌<◌}
use native.Mathlib.Decide.{dec_lt, ℕ_discrete}
use native.Mathlib.Omega.{arith}
use lib.ListN.{length, get_or, replicate, length-set, get_or-eq_default}
use lib.Seq.{set_out, get_or-set_same, get_or-set_other}
use Rattle.marks.specs.Marks.{with_bit, marked, no_marks, set_mark}
use Rattle.marks.proofs.Bits.{bit-set, bit-other, zero_bit}

-- ---- Out of range

pub marked-out : (ws : List ℕ) (i : ℕ) → length ws ≡ 64 → 4096 ≤ i → marked ws i ≡ false
unfolding marked
marked-out ws i l h = rw (get_or-eq_default ws 0 {n = i / 64} (omega arith), zero_bit)

-- ---- No marks

zero_word : (n k : ℕ) → ◌≡◌ {A = ℕ} (get_or (replicate n 0) k 0) 0
zero_word zero k = refl
zero_word (suc n) zero = refl
zero_word (suc n) (suc k) = zero_word n k

pub none-marked : (i : ℕ) → marked no_marks i ≡ false
unfolding marked
none-marked i = rw (zero_word 64 (i / 64), zero_bit)

-- ---- Setting a mark: exactly index i is new

pub set-mark-length : (ws : List ℕ) (i : ℕ) → length (set_mark ws i) ≡ length ws
unfolding set_mark
set-mark-length ws i = length-set ws (i / 64) (with_bit (get_or ws (i / 64) 0) (i % 64))

pub set-mark-here : (ws : List ℕ) (i : ℕ) → length ws ≡ 64 → i < 4096 → marked (set_mark ws i) i ≡ true
unfolding marked set_mark
set-mark-here ws i l h =
    rw (get_or-set_same ws (i / 64) (with_bit (get_or ws (i / 64) 0) (i % 64)) 0 (omega arith), bit-set)

pub set-mark-other : (ws : List ℕ) (i j : ℕ) → j ≢ i → marked (set_mark ws i) j ≡ marked ws j
unfolding marked set_mark
set-mark-other ws i j d =
    elim (ℕ_discrete (j / 64) (i / 64)) [
      | yes e ↦ elim (dec_lt (i / 64) (length ws)) [
        | yes h ↦ rw (e, get_or-set_same ws (i / 64)) (bit-other (get_or ws (i / 64) 0) (i % 64) (j % 64) (λ q. d (omega arith)))
        | no h ↦ rw (set_out ws (i / 64) (with_bit (get_or ws (i / 64) 0) (i % 64)) (omega arith))
      ]
      | no n ↦ rw (get_or-set_other ws (i / 64) (j / 64))
    ]
