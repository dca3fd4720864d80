-- What the loop of a push knows of a byte's answer: that it asks for more, or that it does not. Assumes nothing.
use Rattle.std.specs.Prelude.{Some, None, Ok, Err}
use Rattle.std.specs.Option.{option_eq}
use Rattle.std.specs.Result.{result_eq}
use mathlib.Core.Path.{◌≡◌, refl, sym, ◌∙◌}
use mathlib.Core.Bool.{Bool, true, false, not, false≢true}
use Rattle.dec.specs.Stream.{Answer, outcome, is_more}
use Rattle.dec.specs.declared.stream.CobsDecoder.{CobsDecoder}
use Rattle.dec.specs.declared.stream.Frame.{Frame}
use Rattle.dec.specs.declared.stream.PushError.{PushError}
use Rattle.dec.specs.declared.stream.PushError.TheVariants.{InvalidFrame, TargetBufTooSmall, BadState}
use Rattle.dec.specs.declared.stream.Pushed.{Pushed}

pub refusal_stops : (d : CobsDecoder) (e : PushError) → is_more (outcome (record { next = d; answer = Err e })) ≡ false
refusal_stops d (InvalidFrame decoded consumed) = refl
refusal_stops d (TargetBufTooSmall consumed) = refl
refusal_stops d BadState = refl

-- the test `answer != Ok(None)`, whatever compares frames and refusals
module _ (f : Frame → Frame → Bool) (g : PushError → PushError → Bool) (r : Pushed) (n : Bool) (e : n ≡ not (result_eq (option_eq f) g r.answer (Ok None))) where
  pub unlike-more : n ≡ true → is_more (outcome r) ≡ false
  unlike-more t = go r.answer (sym e ∙ t)
    where
      go : (a : Answer) → not (result_eq (option_eq f) g a (Ok None)) ≡ true → is_more (outcome (record { next = r.next; answer = a })) ≡ false
      go (Ok None) h = absurd (false≢true h)
      go (Ok (Some frame)) h = refl
      go (Err x) h = refusal_stops r.next x

  pub like-more : n ≡ false → r.answer ≡ Ok None
  like-more t = go r.answer (sym e ∙ t)
    where
      go : (a : Answer) → not (result_eq (option_eq f) g a (Ok None)) ≡ false → a ≡ Ok None
      go (Ok None) h = refl
      go (Ok (Some frame)) h = absurd (false≢true (sym h))
      go (Err x) h = absurd (false≢true (sym h))
