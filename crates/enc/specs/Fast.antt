-- What the private functions behind the one-shot calls tell each other; no promise of a public function cites it.
-- Assumes nothing.
use Rattle.std.specs.Prelude.{◌≡◌, List, ◌++◌, ℕ, ◌+◌, ◌-◌, ◌≤◌, ◌<◌, length, get_or, take, drop, Result, Ok, Err, ⊤, if◌then◌else◌}
use Rattle.cobs.specs.Words.{◌exceeds◌}
use Rattle.cobs.specs.Code.{encode}
use Rattle.cobs.specs.declared.refusals.DestBufTooSmall.{DestBufTooSmall}

-- The encoding, under a name that no function has.
abbrev pub encoding : List ℕ → List ℕ
encoding m = encode m

-- Whether the encoding fits.
abbrev pub room_for : (src : List ℕ) (room : ℕ) → Result ⊤ DestBufTooSmall
room_for src room = if length (encode src) exceeds room then Err (record {}) else Ok tt

-- A group whose code is at `place` can end before `at`: its code is 1 to 255.
abbrev pub Closes : (place at : ℕ) → Type 0
Closes place at = (place < at) × (at ≤ place + 255)

-- Ended before `at` it would not be full.
abbrev pub Short : (place at : ℕ) → Type 0
Short place at = at ≤ place + 254

-- The source s up to i is written to the buffer d, but for the code of the group that is open, at `place`.
-- `out`: where the byte at i goes; `ahead`: so many bytes from i on are copied too. Past these the buffer may hold anything.
pub record Open (s : List ℕ) (i place out ahead : ℕ) (d : List ℕ) : Type 0 where
  -- the open group's `run` bytes stand at `start` in the source
  pub start : ℕ
  pub run : ℕ
  pub here : start + run ≡ i
  pub code : place + 1 + run ≡ out
  pub few : run ≤ 254
  pub within : i + ahead ≤ length s
  pub clean : (k : ℕ) → k < run → get_or s (start + k) 0 ≡ 0 → ⊥
  -- the groups before it are written
  pub size : place + length (encode (drop start s)) ≡ length (encode s)
  pub front : take place d ++ encode (drop start s) ≡ encode s
  pub copied : (k : ℕ) → k < run + ahead → get_or d (place + 1 + k) 0 ≡ get_or s (start + k) 0
  pub fits : length (encode s) ≤ length d

-- The buffer is as long as before, and past the encoding of s it is as before.
pub record Kept (s d d' : List ℕ) : Type 0 where
  pub long : length d' ≡ length d
  pub rest : drop (length (encode s)) d' ≡ drop (length (encode s)) d

-- The bytes from `from` to r end at a zero, the source's end or a full group.
pub record Ends (s : List ℕ) (from r place at : ℕ) : Type 0 where
  pub after : from ≤ r
  pub stops : r < length s → at + (r - from) < place + 255 → get_or s r 0 ≡ 0

-- From r to `to` no byte is zero, and the byte before r is, unless r is `from`.
pub record AfterLastZero (s : List ℕ) (from to r : ℕ) : Type 0 where
  pub after : from ≤ r
  pub before : r ≤ to
  pub clean : (k : ℕ) → r ≤ k → k < to → get_or s k 0 ≡ 0 → ⊥
  pub stops : from < r → get_or s (r - 1) 0 ≡ 0
