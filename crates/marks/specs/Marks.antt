-- 01 "The batch receiver": one mark bit for each of 4,096 indices, in 64 words of 64 bits. A word is a number below 2 ^ 64.
-- Assumes nothing.
use Rattle.std.specs.Prelude.{Bool, cond, List, ℕ, zero, suc, ◌+◌, ◌/◌, ◌%◌, ◌^◌, get_or, set, replicate, eqb}

-- Bit s of word w is 1.
unfoldable pub bit_at : (w s : ℕ) → Bool
bit_at w s = eqb (w / 2 ^ s % 2) 1

-- Word w with bit s at 1.
unfoldable pub with_bit : (w s : ℕ) → ℕ
with_bit w s = cond (bit_at w s) w (w + 2 ^ s)

-- Index i is marked: bit i % 64 of word i / 64 is 1. Of a word that is not there no bit is.
unfoldable pub marked : (words : List ℕ) (i : ℕ) → Bool
marked words i = bit_at (get_or words (i / 64) 0) (i % 64)

-- No index is marked.
abbrev pub no_marks : List ℕ
no_marks = replicate 64 0

-- The words with index i marked. Where its word is not there nothing changes.
unfoldable pub set_mark : (words : List ℕ) (i : ℕ) → List ℕ
set_mark words i = set words (i / 64) (with_bit (get_or words (i / 64) 0) (i % 64))

-- How many of the numbers below n pass a test.
unfoldable pub count_below : (test : ℕ → Bool) (n : ℕ) → ℕ
count_below test zero = 0
count_below test (suc n) = count_below test n + cond (test n) 1 0

-- How many of the indices below n are marked.
unfoldable pub marked_below : (words : List ℕ) (n : ℕ) → ℕ
marked_below words n = count_below (marked words) n
