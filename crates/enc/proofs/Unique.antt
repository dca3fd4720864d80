-- Two results that meet a function's promise are equal, for every public function. Assumes nothing.
use Rattle.std.specs.Prelude.{Result, Ok, Err, ⊤, if◌then◌else◌}
use mathlib.Core.Path.{◌≡◌, refl, sym, ap₂, ◌∙◌}
use mathlib.Core.List.{List}
use Prim.Native.Nat.{ℕ}
use lib.Dec.{eqb}
use lib.ListN.{length}
use Rattle.cobs.specs.Answers.{Told, is_done}
use Rattle.cobs.specs.declared.refusals.BadState.{BadState}
use Rattle.cobs.specs.declared.refusals.DestBufTooSmall.{DestBufTooSmall}
use Rattle.cobs.specs.OneShot.{plain, zeros_around, chosen, encode_told, encode_dest}
use Rattle.cobs.proofs.Told.{one-result}
use Rattle.enc.specs.State.{fresh_state, state_push, state_finalize}
use Rattle.enc.specs.Stream.{fresh, started, push_told, push_next, push_dest, finish_told, finish_dest}
use Rattle.enc.specs.Stream as stream
use Rattle.enc.specs.OneShot.{told}
use Rattle.enc.specs.declared.state.EncoderState.{EncoderState}
use Rattle.enc.specs.declared.state.StatePushed.{StatePushed}
use Rattle.enc.specs.declared.state.Modify.{Modify}
use Rattle.enc.specs.declared.stream.Encoder.{Encoder}
use Rattle.enc.specs.declared.stream.PushError.{PushError}
use Rattle.enc.specs.declared.stream.PushError.TheVariants as error
use Rattle.enc.specs.declared.stream.Pushed.{Pushed}
use Rattle.enc.specs.declared.oneshot.EncodeError.{EncodeError}
use Rattle.enc.specs.declared.oneshot.EncodeError.TheVariants as refusal

-- ---- the state alone

pub unique-EncoderState-new : (r s : EncoderState) → r ≡ fresh_state → s ≡ fresh_state → r ≡ s
unique-EncoderState-new r s p q = p ∙ sym q

pub unique-EncoderState-push : (e : EncoderState) (byte : ℕ) (r s : StatePushed) → r ≡ state_push e byte → s ≡ state_push e byte → r ≡ s
unique-EncoderState-push e byte r s p q = p ∙ sym q

pub unique-EncoderState-finalize : (e : EncoderState) (r s : Result Modify BadState) → r ≡ state_finalize e → s ≡ state_finalize e → r ≡ s
unique-EncoderState-finalize e r s p q = p ∙ sym q

-- ---- streaming

pub unique-Encoder-new : (r s : Encoder) → r ≡ fresh → s ≡ fresh → r ≡ s
unique-Encoder-new r s p q = p ∙ sym q

pub unique-Encoder-start : (dest : List ℕ) (r s : Result Encoder DestBufTooSmall) → r ≡ started (length dest) → s ≡ started (length dest) → r ≡ s
unique-Encoder-start dest r s p q = p ∙ sym q

pushed-back : Told → Result ⊤ PushError
pushed-back t =
    if is_done t then Ok tt
    else if eqb t.number 6 then Err error.BadState
    else if eqb t.number 5 then Err error.TooLong
    else Err error.DestBufTooSmall

pushed-told : (r : Result ⊤ PushError) → pushed-back (stream.told r) ≡ r
unfolding pushed-back
pushed-told (Ok u) = refl
pushed-told (Err error.BadState) = refl
pushed-told (Err error.TooLong) = refl
pushed-told (Err error.DestBufTooSmall) = refl

-- What `Encoder::push` promises of its result r and of the buffer d' that it leaves.
pub record Push (e : Encoder) (piece d : List ℕ) (r : Pushed) (d' : List ℕ) : Type 0 where
  pub answer : stream.told r.answer ≡ push_told e piece (length d)
  pub next : r.next ≡ push_next e piece (length d)
  pub memory : d' ≡ push_dest e piece d

pub unique-Encoder-push : (e : Encoder) (piece d : List ℕ) (r s : Pushed) (d' d'' : List ℕ)
    → Push e piece d r d' → Push e piece d s d'' → (r ≡ s) × (d' ≡ d'')
unique-Encoder-push e piece d r s d' d'' p q = (
  ap₂ (λ (a : Result ⊤ PushError) (n : Encoder). record { answer = a; next = n })
      (one-result stream.told pushed-back pushed-told p.answer q.answer) (p.next ∙ sym q.next),
  p.memory ∙ sym q.memory,
)

finished-back : Told → Result ℕ BadState
finished-back t = if is_done t then Ok t.first else Err record {}

finished-told : (r : Result ℕ BadState) → finished-back (stream.told_finished r) ≡ r
unfolding finished-back
finished-told (Ok n) = refl
finished-told (Err e) = refl

pub unique-Encoder-finalize : (e : Encoder) (d : List ℕ) (r s : Result ℕ BadState) (d' d'' : List ℕ)
    → stream.told_finished r ≡ finish_told e (length d) → stream.told_finished s ≡ finish_told e (length d)
    → d' ≡ finish_dest e d → d'' ≡ finish_dest e d → (r ≡ s) × (d' ≡ d'')
unique-Encoder-finalize e d r s d' d'' p q a b = (one-result stream.told_finished finished-back finished-told p q, a ∙ sym b)

-- ---- the one-shot calls, whatever the form

back : Told → Result ℕ EncodeError
back t = if is_done t then Ok t.first else if eqb t.number 5 then Err refusal.TooLong else Err refusal.DestBufTooSmall

back-told : (r : Result ℕ EncodeError) → back (told r) ≡ r
unfolding back
back-told (Ok n) = refl
back-told (Err refusal.TooLong) = refl
back-told (Err refusal.DestBufTooSmall) = refl

unique-form : {t : Told} {m : List ℕ} (r s : Result ℕ EncodeError) (d' d'' : List ℕ) → told r ≡ t → told s ≡ t → d' ≡ m → d'' ≡ m → (r ≡ s) × (d' ≡ d'')
unique-form r s d' d'' p q a b = (one-result told back back-told p q, a ∙ sym b)

module _ (src d : List ℕ) (r s : Result ℕ EncodeError) (d' d'' : List ℕ) where
  pub unique-encode : told r ≡ encode_told plain src (length d) → told s ≡ encode_told plain src (length d)
      → d' ≡ encode_dest plain src d → d'' ≡ encode_dest plain src d → (r ≡ s) × (d' ≡ d'')
  unique-encode = unique-form r s d' d''

  pub unique-try_encode : told r ≡ encode_told plain src (length d) → told s ≡ encode_told plain src (length d)
      → d' ≡ encode_dest plain src d → d'' ≡ encode_dest plain src d → (r ≡ s) × (d' ≡ d'')
  unique-try_encode = unique-form r s d' d''

  pub unique-encode_including_sentinels : told r ≡ encode_told zeros_around src (length d) → told s ≡ encode_told zeros_around src (length d)
      → d' ≡ encode_dest zeros_around src d → d'' ≡ encode_dest zeros_around src d → (r ≡ s) × (d' ≡ d'')
  unique-encode_including_sentinels = unique-form r s d' d''

  pub unique-try_encode_including_sentinels : told r ≡ encode_told zeros_around src (length d) → told s ≡ encode_told zeros_around src (length d)
      → d' ≡ encode_dest zeros_around src d → d'' ≡ encode_dest zeros_around src d → (r ≡ s) × (d' ≡ d'')
  unique-try_encode_including_sentinels = unique-form r s d' d''

pub unique-encode_with_sentinel : (src d : List ℕ) (sentinel : ℕ) (r s : Result ℕ EncodeError) (d' d'' : List ℕ)
    → told r ≡ encode_told (chosen sentinel) src (length d) → told s ≡ encode_told (chosen sentinel) src (length d)
    → d' ≡ encode_dest (chosen sentinel) src d → d'' ≡ encode_dest (chosen sentinel) src d → (r ≡ s) × (d' ≡ d'')
unique-encode_with_sentinel src d sentinel = unique-form
