-- 01's sentences about the encoder's calls, to be ticked off. `proofs/Sentences.antt` proves them together. Assumes nothing.
use Rattle.std.specs.Prelude.{◌≡◌, true, false, List, [], ◌∷◌, ◌++◌, ℕ, ◌≤◌, ◌<◌, Ok, length, get_or, drop, if◌then◌else◌}
use Rattle.cobs.specs.Words.{◌exceeds◌}
use Rattle.cobs.specs.Code.{encode, over}
use Rattle.cobs.specs.Answers.{Told, done, dest_buf_too_small, too_long, longest, is_done}
use Rattle.enc.specs.State.{last_place, state_bad, state_push}
use Rattle.enc.specs.Stream.{finished_length, is_bad, started, start_told, push_told, push_next, push_dest, finish_told, finish_dest}
use Rattle.enc.specs.declared.state.EncoderState.{EncoderState}
use Rattle.enc.specs.declared.stream.Encoder.{Encoder}

-- ---- Calls on one encoder and one buffer that nobody else writes

-- A call: a piece is pushed, or what is accepted so far is finished.
pub data Call : Type 0 where
  push : (piece : List ℕ) → Call
  finalize : Call

-- The encoder, its buffer, and the accepted pieces joined.
pub record Work : Type 0 where
  pub encoder : Encoder
  pub buffer : List ℕ
  pub accepted : List ℕ

-- What `push` answers to a piece.
abbrev pub answer : Work → (piece : List ℕ) → Told
answer w piece = push_told w.encoder piece (length w.buffer)

-- After a call. `finalize` takes the encoder by value: the caller's own stays as it is, and can go on.
abbrev pub called : Work → Call → Work
called w (push piece) = record {
  encoder = push_next w.encoder piece (length w.buffer);
  buffer = push_dest w.encoder piece w.buffer;
  accepted = w.accepted ++ (if is_done (answer w piece) then piece else []);
}
called w finalize = record { encoder = w.encoder; buffer = finish_dest w.encoder w.buffer; accepted = w.accepted }

-- After several, each on what the call before left.
unfoldable pub calls : Work → List Call → Work
calls w [] = w
calls w (c ∷ cs) = calls (called w c) cs

-- Before the first call.
abbrev pub begun : Encoder → (untouched : List ℕ) → Work
begun e untouched = record { encoder = e; buffer = untouched; accepted = [] }

-- ---- The sentences

-- Whether a message, finished now, fits: TooLong, or too small a buffer, or done.
unfoldable pub fit_told : (message : List ℕ) (room : ℕ) → Told
fit_told message room =
    if length message exceeds longest then too_long
    else if length (encode message) exceeds room then dest_buf_too_small
    else done 0 0

-- After any calls on a buffer that was `untouched` before the first.
pub record Streaming (untouched : List ℕ) (w : Work) : Type 0 where
  -- "a piece is accepted exactly if all accepted before and it, finished now, fit"
  pub accepts : (piece : List ℕ) → answer w piece ≡ fit_told (w.accepted ++ piece) (length untouched)
  -- "With one untouched buffer, the finished bytes depend only on the accepted pieces joined."
  pub finished : finish_told w.encoder (length w.buffer) ≡ done (length (encode w.accepted)) 0
  pub bytes : finish_dest w.encoder w.buffer ≡ over (encode w.accepted) untouched

-- What a call leaves of any encoder and any buffer.
pub record Leaves (w : Work) (c : Call) : Type 0 where
  -- no call leads from a good state to a BadState, on a buffer of the same length
  pub good : is_bad w.encoder (length w.buffer) ≡ false → is_bad (called w c).encoder (length w.buffer) ≡ false
  pub long : length (called w c).buffer ≡ length w.buffer
  -- the finished length never falls, and no call writes behind it
  pub grows : finished_length w.encoder ≤ finished_length (called w c).encoder
  pub behind : (n : ℕ) → finished_length (called w c).encoder ≤ n → drop n (called w c).buffer ≡ drop n w.buffer

-- A byte leads to a BadState exactly if the next place is over the largest usize less 255.
pub record Alone (s : EncoderState) (byte : ℕ) : Type 0 where
  pub only : state_bad (state_push s byte).next ≡ true → last_place < (state_push s byte).next.place
  pub all : last_place < (state_push s byte).next.place → state_bad (state_push s byte).next ≡ true

-- All of them.
pub record Sentences : Type 0 where
  -- from what `start` gives, whatever the calls: a piece after a finalize is among them
  pub streaming : (d : List ℕ) (e : Encoder) → started (length d) ≡ Ok e → (cs : List Call) → Streaming d (calls (begun e d) cs)
  -- "so an encoder cannot start on a buffer of length 0 (refusal 4)": nothing at all, finished now, does not fit
  pub starts : (room : ℕ) → start_told room ≡ fit_told [] room
  pub refuses : start_told 0 ≡ dest_buf_too_small
  -- "An open code byte is not written until its group closes or finalize runs."
  pub unwritten : (e : Encoder) (piece d : List ℕ)
      → get_or (push_dest e piece d) (push_next e piece (length d)).state.place 0 ≡ get_or d (push_next e piece (length d)).state.place 0
  -- whoever wrote to the buffer before, and whether or not calls lead to this encoder
  pub leaves : (w : Work) (c : Call) → Leaves w c
  -- "EncoderState alone: code outside 1 to 254, or place over the largest usize less 255": only the second comes of a push
  pub alone : (s : EncoderState) (byte : ℕ) → state_bad s ≡ false → Alone s byte
