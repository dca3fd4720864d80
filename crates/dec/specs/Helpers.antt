-- How private helpers say what they do. No public promise cites it. Assumes nothing.
use Rattle.std.specs.Prelude.{◌≡◌, Bool, List, ℕ, ◌+◌, ◌-◌, ◌≤◌, ◌<◌, eqb, length, get_or, drop, if◌then◌else◌}
use Rattle.std.proofs.Math.Seq.{paste}
use Rattle.dec.specs.Stream.{at, further, piece_outcome, piece_dest}
use Rattle.dec.specs.declared.fast.Open.{Open}
use Rattle.dec.specs.declared.state.DecoderState.{DecoderState}
use Rattle.dec.specs.declared.state.DecoderState.TheVariants.{Grab, GrabChain}
use Rattle.dec.specs.declared.stream.CobsDecoder.{CobsDecoder}

-- Over the piece p, from i with decoder d and destination m, comes what comes from i' with d' and m'.
pub record Ahead (room : ℕ) (p : List ℕ) (i : ℕ) (d : CobsDecoder) (m : List ℕ) (i' : ℕ) (d' : CobsDecoder) (m' : List ℕ) : Type 0 where
  pub answer : further i (piece_outcome d room (drop i p)) ≡ further i' (piece_outcome d' room (drop i' p))
  pub memory : piece_dest d room (drop i p) m ≡ piece_dest d' room (drop i' p) m'
  pub long : length m' ≡ length m

-- In a group with so many bytes to come, whose code is FF or not.
abbrev pub group : (full : Bool) (left : ℕ) → DecoderState
group full left = if full then GrabChain left else Grab left

-- The decoder inside a group of this code.
abbrev pub inside : (code left place : ℕ) → CobsDecoder
inside code left place = at place (group (eqb code 0xFF) left)

-- The decoder inside an open group.
abbrev pub open_at : Open → (place : ℕ) → CobsDecoder
open_at o place = inside o.code o.left place

-- None of the n bytes from i on is zero.
abbrev pub Clear : (p : List ℕ) (i n : ℕ) → Type 0
Clear p i n = (k : ℕ) → k < n → get_or p (i + k) 0 ≡ 0 → ⊥

-- Where sixteen bytes of the piece, from i on, stand in d as they are, they are decoded in d'.
abbrev pub Patched : (p : List ℕ) (i place : ℕ) (o : Open) (d : List ℕ) (o' : Open) (d' : List ℕ) → Type 0
Patched p i place o d o' d' =
    (m : List ℕ) → length m ≡ length d → d ≡ paste m place (drop i p) 16
    → Ahead (length d) p i (open_at o place) m (i + 16) (open_at o' (place + 16)) d'

-- In d' the first k bytes of the piece from `from` on are decoded, in any group with `most` bytes to come or more.
abbrev pub Passed : (p : List ℕ) (from to : ℕ) (d : List ℕ) (most k : ℕ) (d' : List ℕ) → Type 0
Passed p from to d most k d' =
    (code left : ℕ) → most ≤ left → Ahead (length d) p from (inside code left to) d (from + k) (inside code (left - k) (to + k)) d'
