-- 01 "The code": the encoding of a message, and what a body means. Bytes are numbers, messages and bodies are lists of them.
-- Assumes nothing.
use Rattle.std.specs.Prelude.{Bool, true, false, List, [], ◌∷◌, ◌++◌, map, ℕ, zero, suc, pred, ◌+◌, ◌/◌, ◌<◌, length, take, drop, eqb, if◌then◌else◌}
use Rattle.std.specs.Int.Bits.{bit_xor}
use Rattle.cobs.specs.Words.{◌exceeds◌}

-- ---- Encoding a message, group by group

-- The longest run of nonzero bytes, at most n.
abbrev pub run : ℕ → List ℕ → List ℕ
run zero m = []
run (suc n) [] = []
run (suc n) (zero ∷ m) = []
run (suc n) (suc b ∷ m) = suc b ∷ run n m

-- One group: whether the run has 254 bytes, the run r, and the message after it. `go` encodes the rest.
abbrev pub group : (go : List ℕ → List ℕ) (full : Bool) (r after : List ℕ) → List ℕ
-- Run of 254: write FF and the run. If the message is used up, stop; else go on with the rest.
group go true r [] = 0xFF ∷ r
group go true r (b ∷ rest) = 0xFF ∷ (r ++ go (b ∷ rest))
-- Shorter run, then a zero z: write the run's length plus 1 and the run, drop the zero, go on with the rest, even if the rest is empty.
group go false r (z ∷ rest) = suc (length r) ∷ (r ++ go rest)
-- Shorter run, then the end: write length plus 1 and the run; stop.
group go false r [] = suc (length r) ∷ r

-- At most n groups of the encoding. Each group but the last uses up a byte of the message or more.
unfoldable pub encode_in : (n : ℕ) → List ℕ → List ℕ
encode_in zero m = []
encode_in (suc n) m = group (encode_in n) (eqb (length (run 254 m)) 254) (run 254 m) (drop (length (run 254 m)) m)

-- The encoding of a message.
unfoldable pub encode : List ℕ → List ℕ
encode m = encode_in (suc (length m)) m

-- What the encoding of n bytes adds at most: n/254 rounded up, or 1 for n = 0.
abbrev pub overhead : ℕ → ℕ
overhead zero = 1
overhead (suc n) = (suc n + 253) / 254

-- How long it is at most.
abbrev pub max_length : ℕ → ℕ
max_length n = n + overhead n

-- Of each number.
abbrev pub Each : (P : ℕ → Type 0) → List ℕ → Type 0
Each P [] = Unit {0}
Each P (b ∷ s) = P b × Each P s

-- No byte is zero.
abbrev pub NoZero : List ℕ → Type 0
NoZero s = Each (λ b. 0 < b) s

-- Each number is a byte.
abbrev pub Bytes : List ℕ → Type 0
Bytes s = Each (λ b. b < 256) s

-- ---- A body, read as groups

-- The bytes before the first zero, or all of them.
abbrev pub body : List ℕ → List ℕ
body [] = []
body (zero ∷ s) = []
body (suc b ∷ s) = suc b ∷ body s

-- What a body means.
pub record Reading : Type 0 where
  -- the bytes of its whole groups, each with its following zero
  pub groups : List ℕ
  -- the bytes of a short last group
  pub short : List ℕ
  -- no group is short
  pub whole : Bool
  -- where the short group's code stands; 0 if no group is short
  pub offset : ℕ

-- A short group, or no group at all: no frame.
abbrev pub cut : List ℕ → Reading
cut s = record { groups = []; short = s; whole = false; offset = 0 }

-- The last group, whole.
abbrev pub ended : List ℕ → Reading
ended s = record { groups = s; short = []; whole = true; offset = 0 }

-- The bytes s of a whole group, which takes up c bytes of the body, and the reading of the groups after it.
abbrev pub onto : List ℕ → (c : ℕ) → Reading → Reading
onto s c r = record { groups = s ++ r.groups; short = r.short; whole = r.whole; offset = if r.whole then 0 else c + r.offset }

-- A zero, if the group's code is not FF.
abbrev pub zero_after : (c : ℕ) → List ℕ
zero_after c = if eqb c 0xFF then [] else 0 ∷ []

-- Code c, then c-1 bytes, then a zero if c is not FF and another group follows. `s` stands after the code; `go` reads what is after the group.
abbrev pub group_read : (go : List ℕ → Reading) (c : ℕ) (s : List ℕ) (is_short : Bool) (after : List ℕ) → Reading
group_read go c s true after = cut s
group_read go c s false [] = ended s
group_read go c s false (d ∷ after) = onto (take (pred c) s ++ zero_after c) c (go (d ∷ after))

-- At most n groups of a body. Each group uses up its code.
unfoldable pub read_in : (n : ℕ) → List ℕ → Reading
read_in zero b = cut []
read_in (suc n) [] = cut []
read_in (suc n) (c ∷ s) = group_read (read_in n) c s (pred c exceeds length s) (drop (pred c) s)

-- The reading of a body.
unfoldable pub read : List ℕ → Reading
read b = read_in (length b) b

-- ---- Bytes in a buffer

-- The buffer d with the bytes s laid over its front, as far as it has room; the rest untouched.
abbrev pub over : List ℕ → List ℕ → List ℕ
over [] d = d
over (b ∷ s) [] = []
over (b ∷ s) (x ∷ d) = b ∷ over s d

-- Each byte XORed with the sentinel.
abbrev pub masked : (sentinel : ℕ) → List ℕ → List ℕ
masked sentinel s = map (λ (b : ℕ). bit_xor b sentinel) s
