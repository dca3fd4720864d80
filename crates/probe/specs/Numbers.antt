-- A streaming state as four numbers in a lent array, for a caller who has no such type. Assumes nothing.
use Rattle.std.specs.Prelude.{Bool, true, false, not, ◌||◌, List, [], ◌∷◌, ℕ, eqb, length, if◌then◌else◌}
use Rattle.cobs.specs.Words.{◌exceeds◌}
use Rattle.cobs.specs.Code.{over}
use Rattle.cobs.specs.Answers.{Told, done, dest_buf_too_small, bad_state, if_done}
use Rattle.enc.specs.State.{opened}
use Rattle.enc.specs.Stream.{fresh, push_told, push_next}
use Rattle.enc.specs.declared.stream.Encoder.{Encoder}
use Rattle.dec.specs.declared.state.DecoderState.{DecoderState}
use Rattle.dec.specs.declared.state.DecoderState.TheVariants.{Idle, Grab, GrabChain}
use Rattle.dec.specs.declared.stream.CobsDecoder.{CobsDecoder}
use Rattle.dec.specs.Stream.{Outcome, push_outcome}

-- An array of four numbers, taken by f; any other is x.
abbrev pub four : {X : Type 0} → (f : ℕ → ℕ → ℕ → ℕ → X) (x : X) → List ℕ → X
four f x [] = x
four f x (a ∷ []) = x
four f x (a ∷ b ∷ []) = x
four f x (a ∷ b ∷ c ∷ []) = x
four f x (a ∷ b ∷ c ∷ d ∷ []) = f a b c d
four f x (a ∷ b ∷ c ∷ d ∷ e ∷ more) = x

-- A yes or no as a number.
abbrev pub flag : Bool → ℕ
flag true = 1
flag false = 0

-- ---- the encoder: place, code, full, count

-- BadState with every buffer: the numbers name no encoder.
abbrev pub no_encoder : Encoder
no_encoder = record { state = opened 0 0; full = false; count = 0 }

-- The encoder of these numbers. A code over a byte, or a flag that is neither 0 nor 1, names none.
unfoldable pub encoder_from : (place code full count : ℕ) → Encoder
encoder_from place code full count =
    if (code exceeds 255) || (full exceeds 1) then no_encoder
    else record { state = opened place code; full = eqb full 1; count = count }

-- The encoder that an array names.
abbrev pub encoder_of : List ℕ → Encoder
encoder_of numbers = four encoder_from no_encoder numbers

-- Its numbers.
abbrev pub encoder_numbers : Encoder → List ℕ
encoder_numbers e = e.state.place ∷ e.state.code ∷ flag e.full ∷ e.count ∷ []

-- ---- the decoder: place, skip, 0 Idle or 1 Grab or 2 GrabChain, bytes left

-- BadState with every destination: the numbers name no decoder.
abbrev pub no_decoder : CobsDecoder
no_decoder = record { place = 1; skip = false; state = Idle }

-- The state of these numbers; any number but 0 and 1 is GrabChain.
abbrev pub state_from : (tag left : ℕ) → DecoderState
state_from tag left = if eqb tag 0 then Idle else if eqb tag 1 then Grab left else GrabChain left

-- The decoder of these numbers. A flag over 1, a state over 2, or more left than a byte holds names none.
unfoldable pub decoder_from : (place skip tag left : ℕ) → CobsDecoder
decoder_from place skip tag left =
    if (skip exceeds 1) || (tag exceeds 2) || (left exceeds 255) then no_decoder
    else record { place = place; skip = eqb skip 1; state = state_from tag left }

-- The decoder that an array names.
abbrev pub decoder_of : List ℕ → CobsDecoder
decoder_of numbers = four decoder_from no_decoder numbers

-- A state's number.
abbrev pub tag : DecoderState → ℕ
tag Idle = 0
tag (Grab left) = 1
tag (GrabChain left) = 2

-- The bytes left in its group.
abbrev pub to_come : DecoderState → ℕ
to_come Idle = 0
to_come (Grab left) = left
to_come (GrabChain left) = left

-- A decoder's numbers.
abbrev pub decoder_numbers : CobsDecoder → List ℕ
decoder_numbers d = d.place ∷ flag d.skip ∷ tag d.state ∷ to_come d.state ∷ []

-- ---- the array after a call

-- An encoder cannot start on a buffer of length 0, nor in an array of another length.
unfoldable pub start_told : (numbers : List ℕ) (room : ℕ) → Told
start_told numbers room = if not (eqb (length numbers) 4) then bad_state else if eqb room 0 then dest_buf_too_small else done 0 0

-- A fresh encoder's numbers, if it started.
unfoldable pub start_numbers : (numbers : List ℕ) (room : ℕ) → List ℕ
start_numbers numbers room = if_done (start_told numbers room) (over (encoder_numbers fresh) numbers) numbers

-- The next encoder's numbers, if the piece was accepted.
unfoldable pub push_numbers : (numbers piece : List ℕ) (room : ℕ) → List ℕ
push_numbers numbers piece room =
    if_done (push_told (encoder_of numbers) piece room) (over (encoder_numbers (push_next (encoder_of numbers) piece room)) numbers) numbers

-- What the decoder comes to on the piece.
abbrev pub decoded : (numbers piece : List ℕ) (room : ℕ) → Outcome
decoded numbers piece room = push_outcome (decoder_of numbers) room piece

-- The next decoder's numbers; a BadState leaves them.
unfoldable pub decode_numbers : (numbers piece : List ℕ) (room : ℕ) → List ℕ
decode_numbers numbers piece room =
    if eqb (decoded numbers piece room).answer.number bad_state.number then numbers
    else over (decoder_numbers (decoded numbers piece room).next) numbers
