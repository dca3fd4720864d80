-- Noise before a delivery, with a receiver that is open already: if every answer to it was a refusal, the delivery is answered as if
-- there had been none. Noise that is a frame of this batch is not covered: the receiver would take it. `proofs/Noise.antt` proves
-- it. Assumes nothing.
use Rattle.std.specs.Prelude.{◌≡◌, false, List, [], ◌∷◌, ◌++◌, ℕ, ◌≤◌, length}
use Rattle.dec.specs.Stream.{bad}
use Rattle.dec.specs.declared.stream.CobsDecoder.{CobsDecoder}
use Rattle.wire.specs.Again.{Said, Run, joined}
use Rattle.wire.specs.Loop.{Side, drive}
use Rattle.wire.specs.Receive.{End, Seen, accepting}
use Rattle.wire.specs.Demand3.{Delivery, started, hand}
use Rattle.wire.specs.Among.{bytes_of, Among, expected_among}

-- Every answer is a refusal of 01's table, which are numbers 1 to 13. (More is not among what was said.)
abbrev pub AllRefused : {View : Type 0} → (said : List (Said View)) → Type 0
AllRefused [] = Unit {0}
AllRefused (s ∷ said) = (s.answer.number ≤ 13) × AllRefused said

-- The receiver is opened before the noise, beside any decoder.
abbrev pub opened_early : Delivery → CobsDecoder → Side End
opened_early d decoder = record { decoder = decoder; buffer = d.buffer; state = (started d).state }

-- The bytes, by calls of the delivery's own caller.
abbrev pub noise_run : Delivery → CobsDecoder → (bytes : List ℕ) → Run (Side End) Seen
noise_run d decoder bytes = drive accepting (hand d) 0 (opened_early d decoder) (bytes ∷ [])

-- Noise before what comes in a delivery's place: from a decoder that is not BadState, any bytes that end in a zero and were all
-- refused; all of it cut anywhere.
pub record Noisy (d : Delivery) (a : Among d) : Type 0 where
  pub decoder : CobsDecoder
  pub fit : bad decoder (length d.buffer) ≡ false
  pub bytes : List ℕ
  pub refused : AllRefused (noise_run d decoder (bytes ++ 0 ∷ [])).said
  pub pieces : List (List ℕ)
  pub cut : joined pieces ≡ (bytes ++ 0 ∷ []) ++ (bytes_of d.batch a.came ++ a.begun)

-- After the noise the receiver is still the one that was opened; and after the refusals each frame is answered as it is without
-- noise.
pub record Unmoved (d : Delivery) (a : Among d) (n : Noisy d a) : Type 0 where
  pub receiver : (noise_run d n.decoder (n.bytes ++ 0 ∷ [])).side.state.receiver ≡ (started d).state.receiver
  pub answers : (drive accepting (hand d) 0 (opened_early d n.decoder) n.pieces).said
      ≡ (noise_run d n.decoder (n.bytes ++ 0 ∷ [])).said ++ expected_among d.batch [] a.came
