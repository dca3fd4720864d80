-- 01 "one CobsEncoder that holds its output slice": each definition puts together those of `enc`. Assumes nothing.
use Rattle.std.specs.Prelude.{List, [], ◌∷◌, ℕ, ⊤, Result, Ok, Err, length}
use denote.Ref.{MutBor, at_last}
use Rattle.cobs.specs.Answers.{Told, done, dest_buf_too_small}
use Rattle.cobs.specs.declared.refusals.DestBufTooSmall.{DestBufTooSmall}
use Rattle.enc.specs.Stream.{fresh, start_told, told, push_told, push_next, push_dest, told_finished, finish_told, finish_dest}
use Rattle.enc.specs.declared.stream.Encoder.{Encoder}
use Rattle.held.specs.declared.CobsEncoder.{CobsEncoder}
use Rattle.held.specs.declared.TwoPieces.{TwoPieces}

-- What `new` answers, told.
abbrev pub told_opened : Result ⊤ DestBufTooSmall → Told
told_opened (Ok u) = done 0 0
told_opened (Err e) = dest_buf_too_small

-- The encoder that starts over a lent slice.
abbrev pub over : MutBor (List ℕ) → CobsEncoder
over dest = record { dest = dest; encoder = fresh }

-- The encoder after a piece: what it holds, and the slice behind its reference.
abbrev pub pushed : CobsEncoder → (piece : List ℕ) → CobsEncoder
pushed e piece = record {
  dest = at_last e.dest (push_dest e.encoder piece e.dest.now);
  encoder = push_next e.encoder piece (length e.dest.now);
}

-- ---- Two pieces into the buffer d

-- The encoder after the first.
abbrev pub next₁ : (d first : List ℕ) → Encoder
next₁ d first = push_next fresh first (length d)

-- The buffer after the first.
abbrev pub dest₁ : (d first : List ℕ) → List ℕ
dest₁ d first = push_dest fresh first d

-- The encoder after both.
abbrev pub next₂ : (d first second : List ℕ) → Encoder
next₂ d first second = push_next (next₁ d first) second (length (dest₁ d first))

-- The buffer after both.
abbrev pub dest₂ : (d first second : List ℕ) → List ℕ
dest₂ d first second = push_dest (next₁ d first) second (dest₁ d first)

-- What `encode_two` answers, told: new, push, push, finalize.
abbrev pub told_two : TwoPieces → List Told
told_two r = told_opened r.opened ∷ told r.first ∷ told r.second ∷ told_finished r.finished ∷ []

-- Each answer is that of the call, on what the call before left.
unfoldable pub two_told : (d first second : List ℕ) → List Told
two_told d first second =
    start_told (length d) ∷ push_told fresh first (length d) ∷ push_told (next₁ d first) second (length (dest₁ d first))
    ∷ finish_told (next₂ d first second) (length (dest₂ d first second)) ∷ []

-- The buffer afterwards.
unfoldable pub two_dest : (d first second : List ℕ) → List ℕ
two_dest d first second = finish_dest (next₂ d first second) (dest₂ d first second)
