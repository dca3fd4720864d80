-- 01 "Decoding calls": what one byte does to the decoder's state. Assumes nothing.
use Rattle.std.specs.Prelude.{◌≡◌, ℕ, zero, suc, pred, eqb, if◌then◌else◌, Result, Ok, Err}
use Rattle.cobs.specs.Answers.{Told, done, invalid_frame}
use Rattle.dec.specs.declared.state.DecoderState.{DecoderState}
use Rattle.dec.specs.declared.state.DecoderState.TheVariants.{Idle, Grab, GrabChain}
use Rattle.dec.specs.declared.state.DecodeResult.{DecodeResult}
use Rattle.dec.specs.declared.state.DecodeResult.TheVariants.{NoData, DataStart, DataComplete, DataContinue}
use Rattle.dec.specs.declared.state.EarlyZero.{EarlyZero}
use Rattle.dec.specs.declared.state.Stepped.{Stepped}

-- What a byte gives: the state's answer, or the refusal of an early zero.
abbrev pub Given : Type 0
Given = Result DecodeResult EarlyZero

-- The next state, and what the byte gives.
abbrev pub gives : DecoderState → Given → Stepped
gives s r = record { state = s; result = r }

-- A group whose code is FF has 254 bytes and no zero after it; any other has its code less 1.
abbrev pub opened : (code : ℕ) → DecoderState
opened code = if eqb code 0xFF then GrabChain 254 else Grab (pred code)

-- A zero ends a whole group and its frame. While bytes of the group are to come it is early: refusal 2, with 0 bytes.
abbrev pub at_zero : (left : ℕ) → Given
at_zero zero = Ok DataComplete
at_zero (suc left) = Err (record {})

-- One byte: the next state, and what it gives.
abbrev pub stepped : DecoderState → (byte : ℕ) → Stepped
-- zeros before a body do nothing; any other byte is a code
stepped Idle zero = gives Idle (Ok NoData)
stepped Idle (suc n) = gives (opened (suc n)) (Ok DataStart)
-- a code after a group stands for a zero
stepped (Grab left) zero = gives Idle (at_zero left)
stepped (Grab zero) (suc n) = gives (opened (suc n)) (Ok (DataContinue 0))
stepped (Grab (suc left)) (suc n) = gives (Grab left) (Ok (DataContinue (suc n)))
-- but not after a group whose code is FF
stepped (GrabChain left) zero = gives Idle (at_zero left)
stepped (GrabChain zero) (suc n) = gives (opened (suc n)) (Ok NoData)
stepped (GrabChain (suc left)) (suc n) = gives (GrabChain left) (Ok (DataContinue (suc n)))

-- ---- what a byte gives, told

-- A refusal with 01's number. The rest is done: first the byte that goes on, then 0 for nothing, 1 at a frame's start, 2 at its end, 3 inside.
abbrev pub told_given : Given → Told
told_given (Ok NoData) = done 0 0
told_given (Ok DataStart) = done 0 1
told_given (Ok DataComplete) = done 0 2
told_given (Ok (DataContinue b)) = done b 3
told_given (Err early) = invalid_frame 0 0

-- What one byte gives, from 01's words alone.
abbrev pub given_told : DecoderState → (byte : ℕ) → Told
-- an early zero: refusal 2, with 0 bytes
given_told (Grab (suc left)) zero = invalid_frame 0 0
given_told (GrabChain (suc left)) zero = invalid_frame 0 0
-- a zero after a whole group ends the frame; before a body it gives nothing
given_told (Grab zero) zero = done 0 2
given_told (GrabChain zero) zero = done 0 2
given_told Idle zero = done 0 0
-- a code begins a frame, stands for a zero after a group, and gives nothing after a group whose code is FF
given_told Idle (suc n) = done 0 1
given_told (Grab zero) (suc n) = done 0 3
given_told (GrabChain zero) (suc n) = done 0 0
-- any other byte is one of the message
given_told (Grab (suc left)) (suc n) = done (suc n) 3
given_told (GrabChain (suc left)) (suc n) = done (suc n) 3

-- What `feed` does with a byte: what it gives, the state behind the reference, and the telling.
pub record Feeds (before : DecoderState) (byte : ℕ) (r : Given) (after : DecoderState) : Type 0 where
  pub result : r ≡ (stepped before byte).result
  pub state : after ≡ (stepped before byte).state
  pub told : told_given r ≡ given_told before byte
