-- 01 "Decoding calls", streaming: what a byte and a piece come to, on the declared decoder itself. Assumes nothing.
use Rattle.std.specs.Prelude.{Bool, true, false, not, ◌&&◌, ◌||◌, List, [], ◌∷◌, ℕ, suc, ◌+◌, eqb, length, set, if◌then◌else◌, Option, Some, None, Result, Ok, Err}
use Rattle.cobs.specs.Words.{◌exceeds◌}
use Rattle.cobs.specs.Answers.{Told, tell, done, invalid_frame, target_buf_too_small, bad_state, more}
use Rattle.dec.specs.State.{Given, stepped}
use Rattle.dec.specs.declared.state.DecoderState.{DecoderState}
use Rattle.dec.specs.declared.state.DecoderState.TheVariants.{Idle, Grab, GrabChain}
use Rattle.dec.specs.declared.state.DecodeResult.TheVariants as result
use Rattle.dec.specs.declared.stream.CobsDecoder.{CobsDecoder}
use Rattle.dec.specs.declared.stream.Frame.{Frame}
use Rattle.dec.specs.declared.stream.PushError.{PushError}
use Rattle.dec.specs.declared.stream.PushError.TheVariants.{InvalidFrame, TargetBufTooSmall, BadState}
use Rattle.dec.specs.declared.stream.Pushed.{Pushed}

-- ---- the decoder

-- With its write place, not skipping.
abbrev pub at : (place : ℕ) → DecoderState → CobsDecoder
at place state = record { place = place; skip = false; state = state }

-- A new decoder, and so again after a frame or an early zero.
abbrev pub new : CobsDecoder
new = at 0 Idle

-- After a byte that had no room.
abbrev pub skipping : CobsDecoder
skipping = record { place = 0; skip = true; state = Idle }

-- Before a body.
abbrev pub is_idle : DecoderState → Bool
is_idle Idle = true
is_idle (Grab left) = false
is_idle (GrabChain left) = false

-- BadState: write place beyond the destination, or not 0 while idle or skipping; skipping with a state not Idle.
unfoldable pub bad : CobsDecoder → (room : ℕ) → Bool
bad d room =
    (d.place exceeds room)
    || ((d.place exceeds 0) && (is_idle d.state || d.skip))
    || (d.skip && not (is_idle d.state))

-- ---- what a call comes to

-- The decoder after it, and the answer.
pub record Outcome : Type 0 where
  pub next : CobsDecoder
  pub answer : Told

-- More.
abbrev pub goes : CobsDecoder → Outcome
goes d = record { next = d; answer = more }

-- A frame or a refusal.
abbrev pub stops : CobsDecoder → Told → Outcome
stops d t = record { next = d; answer = t }

-- What `push` answers: a frame, or none where the piece is used up; or a refusal.
abbrev pub Answer : Type 0
Answer = Result (Option Frame) PushError

-- The same, told.
abbrev pub told : Answer → Told
told (Ok None) = more
told (Ok (Some frame)) = done frame.size frame.parsed
told (Err (InvalidFrame decoded consumed)) = invalid_frame decoded consumed
told (Err (TargetBufTooSmall consumed)) = target_buf_too_small consumed
told (Err BadState) = bad_state

-- What a push gave, with its answer told.
abbrev pub outcome : Pushed → Outcome
outcome r = record { next = r.next; answer = told r.answer }

-- The piece is used up, with no frame and no refusal.
abbrev pub is_more : Outcome → Bool
is_more o = eqb o.answer.number more.number

-- ---- one byte

-- What the state gives, at a write place in a destination of so many bytes.
abbrev pub result_outcome : (place room : ℕ) → DecoderState → Given → Outcome
result_outcome place room s (Ok result.NoData) = goes (at place s)
result_outcome place room s (Ok result.DataStart) = goes (at place s)
result_outcome place room s (Ok result.DataComplete) = stops new (done place 1)
result_outcome place room s (Ok (result.DataContinue b)) =
    if room exceeds place then goes (at (suc place) s) else stops skipping (target_buf_too_small 1)
result_outcome place room s (Err early) = stops new (invalid_frame place 1)

-- Everything through the next zero is dropped while skipping.
unfoldable pub byte_outcome : CobsDecoder → (room byte : ℕ) → Outcome
byte_outcome d room b =
    if d.skip then goes (if eqb b 0 then new else d)
    else result_outcome d.place room (stepped d.state b).state (stepped d.state b).result

-- The destination: `set` past its end changes nothing.
abbrev pub result_dest : (place : ℕ) → Given → List ℕ → List ℕ
result_dest place (Ok result.NoData) dest = dest
result_dest place (Ok result.DataStart) dest = dest
result_dest place (Ok result.DataComplete) dest = dest
result_dest place (Ok (result.DataContinue b)) dest = set dest place b
result_dest place (Err early) dest = dest

-- The destination after the byte.
unfoldable pub byte_dest : CobsDecoder → (byte : ℕ) → List ℕ → List ℕ
byte_dest d b dest = if d.skip then dest else result_dest d.place (stepped d.state b).result dest

-- ---- a piece, up to its first frame or refusal

-- The same outcome, with n bytes before those it counts.
unfoldable pub further : (n : ℕ) → Outcome → Outcome
further n o = if is_more o then o else stops o.next (tell o.answer.number o.answer.first (n + o.answer.second))

-- A first part of n bytes, and a second that is taken where the first asks for more.
unfoldable pub joined : (first : Outcome) (n : ℕ) (second : Outcome) → Outcome
joined first n second = if is_more first then further n second else first

-- Byte by byte.
unfoldable pub piece_outcome : CobsDecoder → (room : ℕ) (piece : List ℕ) → Outcome
piece_outcome d room [] = goes d
piece_outcome d room (b ∷ piece) = joined (byte_outcome d room b) 1 (piece_outcome (byte_outcome d room b).next room piece)

-- The destination after it.
unfoldable pub piece_dest : CobsDecoder → (room : ℕ) (piece dest : List ℕ) → List ℕ
piece_dest d room [] dest = dest
piece_dest d room (b ∷ piece) dest =
    if is_more (byte_outcome d room b) then piece_dest (byte_outcome d room b).next room piece (byte_dest d b dest) else byte_dest d b dest

-- How many bytes of a piece of n bytes its push used.
abbrev pub used : (n : ℕ) → Outcome → ℕ
used n o = if is_more o then n else o.answer.second

-- BadState first: nothing consumed, the state as it went in, the destination untouched.
unfoldable pub push_outcome : CobsDecoder → (room : ℕ) (piece : List ℕ) → Outcome
push_outcome d room piece = if bad d room then stops d bad_state else piece_outcome d room piece

-- The destination after a push.
unfoldable pub push_dest : CobsDecoder → (piece dest : List ℕ) → List ℕ
push_dest d piece dest = if bad d (length dest) then dest else piece_dest d (length dest) piece dest
