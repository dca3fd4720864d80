-- What a refusal's telling says. Assumes nothing.
use Rattle.std.specs.Prelude.{Err}
use mathlib.Core.Path.{◌≡◌, refl}
use mathlib.Core.Bool.{false}
use Rattle.cobs.specs.Answers.{is_done}
use Rattle.place.specs.Calls.{refused, of_body, with_told}
use Rattle.place.specs.declared.place.BodyError.{BodyError}
use Rattle.place.specs.declared.place.BodyError.TheVariants.{EmptyFrame, InvalidFrame}

pub never_done : (e : BodyError) → is_done (refused e) ≡ false
never_done EmptyFrame = refl
never_done (InvalidFrame bytes) = refl

-- it is told alike by the calls that can also want room
pub same_refusal : (e : BodyError) → with_told (Err (of_body e)) ≡ refused e
same_refusal EmptyFrame = refl
same_refusal (InvalidFrame bytes) = refl
