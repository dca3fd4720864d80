-- 01 "Encoding calls", EncoderState alone: what each byte asks of the output, and the state after it. Assumes nothing.
use Rattle.std.specs.Prelude.{Bool, ◌||◌, ℕ, ◌+◌, ◌-◌, Result, Ok, Err, eqb, if◌then◌else◌}
use Rattle.cobs.specs.Words.{◌exceeds◌}
use Rattle.cobs.specs.Answers.{Told, done, bad_state}
use Rattle.cobs.specs.declared.refusals.BadState.{BadState}
use Rattle.enc.specs.declared.state.EncoderState.{EncoderState}
use Rattle.enc.specs.declared.state.PushResult.{PushResult}
use Rattle.enc.specs.declared.state.PushResult.TheVariants.{AddSingle, ModifyFromStartAndSkip, ModifyFromStartAndPushAndSkip}
use Rattle.enc.specs.declared.state.StatePushed.{StatePushed}
use Rattle.enc.specs.declared.state.Modify.{Modify}

-- The code's place, and the code if its group closes now.
abbrev pub opened : (place code : ℕ) → EncoderState
opened place code = record { place = place; code = code }

-- Before the first byte.
abbrev pub fresh_state : EncoderState
fresh_state = opened 0 1

-- One byte, as what it asks and the state after it: a zero closes the group; so does the 254th nonzero byte, with FF; any other byte
-- is added.
unfoldable pub step : EncoderState → (byte : ℕ) → PushResult × EncoderState
step s byte =
    if eqb byte 0 then (ModifyFromStartAndSkip s.place s.code, opened (s.place + s.code) 1)
    else if eqb s.code 254 then (ModifyFromStartAndPushAndSkip s.place 0xFF byte, opened (s.place + 255) 1)
    else (AddSingle byte, opened s.place (s.code + 1))

-- Code outside 1 to 254.
abbrev pub no_code : ℕ → Bool
no_code code = eqb code 0 || (code exceeds 254)

-- The largest usize less 255.
abbrev pub last_place : ℕ
last_place = 0xffff_ffff_ffff_ffff - 255

-- BadState: code outside 1 to 254, or place over the largest usize less 255.
unfoldable pub state_bad : EncoderState → Bool
state_bad s = no_code s.code || (s.place exceeds last_place)

-- What is answered, and the state after it.
abbrev pub asking : Result PushResult BadState → EncoderState → StatePushed
asking result next = record { result = result; next = next }

-- A refused state comes back as it went in.
unfoldable pub state_push : EncoderState → (byte : ℕ) → StatePushed
state_push s byte = if state_bad s then asking (Err record {}) s else asking (Ok (step s byte).0) (step s byte).1

-- What a byte asks, told: the byte or the code to write, and the code's place. The byte beside a full group's code has no room here.
abbrev pub told_asked : Result PushResult BadState → Told
told_asked (Ok (AddSingle b)) = done b 0
told_asked (Ok (ModifyFromStartAndSkip place code)) = done code place
told_asked (Ok (ModifyFromStartAndPushAndSkip place code b)) = done code place
told_asked (Err e) = bad_state

-- BadState; or a zero asks for the code at its place, the 254th nonzero byte for FF there, and any other byte for itself.
unfoldable pub state_push_told : EncoderState → (byte : ℕ) → Told
state_push_told s byte =
    if state_bad s then bad_state
    else if eqb byte 0 then done s.code s.place
    else if eqb s.code 254 then done 0xFF s.place
    else done byte 0

-- The end of the message asks for the code at its place.
unfoldable pub state_finalize : EncoderState → Result Modify BadState
state_finalize s = if state_bad s then Err record {} else Ok record { place = s.place; code = s.code }

-- What the end asks, told: the code to write, and its place.
abbrev pub told_state_finished : Result Modify BadState → Told
told_state_finished (Ok m) = done m.code m.place
told_state_finished (Err e) = bad_state

-- BadState, or the code at its place.
unfoldable pub state_finalize_told : EncoderState → Told
state_finalize_told s = if state_bad s then bad_state else done s.code s.place
