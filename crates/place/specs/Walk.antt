-- The walk over a body's groups, as the private helpers say it. No public promise cites it. Assumes nothing.
use Rattle.std.specs.Prelude.{List, ℕ, ◌+◌, ◌-◌, eqb, length, Result, Ok, Err, if◌then◌else◌}
use Rattle.cobs.specs.Words.{◌exceeds◌}
use Rattle.cobs.specs.Code.{body, zero_after}
use Rattle.place.specs.declared.place.BodyError.{BodyError}
use Rattle.place.specs.declared.place.BodyError.TheVariants.{EmptyFrame, InvalidFrame}
use Rattle.place.specs.declared.walk.Walk.{Walk}

-- At the first code of the buffer's body, or why there is none.
abbrev pub first : (buffer : List ℕ) → Result Walk BodyError
first buffer =
    if eqb (length buffer) 0 then Err EmptyFrame
    else if eqb (length (body buffer)) 0 then Err (InvalidFrame 0)
    else Ok (record { from = 0; to = 0; end = length (body buffer) })

-- Past the group of the code here, or too few bytes are left for it.
abbrev pub past : Walk → (code : ℕ) → Result Walk BodyError
past w code =
    if code exceeds (w.end - w.from) then Err (InvalidFrame w.to)
    else Ok (record { from = w.from + code; to = w.to + (code - 1); end = w.end })

-- Past the zero after a group of this code, where another follows.
abbrev pub closed : Walk → (code : ℕ) → Walk
closed w code = record { from = w.from; to = w.to + length (zero_after code); end = w.end }
