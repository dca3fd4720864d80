-- Two results that meet a function's promise are equal, the memory behind its `&mut` with them, for every public function.
-- Assumes nothing.
use Rattle.std.specs.Prelude.{if◌then◌else◌, Result, Some, None, Ok, Err}
use mathlib.Core.Path.{◌≡◌, refl, sym, ◌∙◌}
use mathlib.Core.List.{List, [], ◌∷◌}
use Prim.Native.Nat.{ℕ}
use lib.Dec.{eqb}
use lib.ListN.{length}
use Rattle.cobs.specs.Answers.{Told, is_done}
use Rattle.cobs.specs.OneShot.{decode_told, decode_dest}
use Rattle.cobs.proofs.Told.{one-result}
use Rattle.dec.specs.State.{Given, stepped, Feeds}
use Rattle.dec.specs.Stream.{new, Outcome, Answer, told, outcome, push_outcome, push_dest}
use Rattle.dec.specs.Calls.{decoded_told}
use Rattle.dec.specs.declared.state.DecoderState.{DecoderState}
use Rattle.dec.specs.declared.state.DecoderState.TheVariants.{Idle}
use Rattle.dec.specs.declared.state.Stepped.{Stepped}
use Rattle.dec.specs.declared.stream.CobsDecoder.{CobsDecoder}
use Rattle.dec.specs.declared.stream.Frame.{Frame}
use Rattle.dec.specs.declared.stream.PushError.TheVariants as push
use Rattle.dec.specs.declared.stream.Pushed.{Pushed}
use Rattle.dec.specs.declared.decode.DecodeError.{DecodeError}
use Rattle.dec.specs.declared.decode.DecodeError.TheVariants as refused

-- ---- what tells an answer, read back

push-back : Told → Answer
push-back t =
    if is_done t then Ok (Some (record { size = t.first; parsed = t.second }))
    else if eqb t.number 2 then Err (push.InvalidFrame t.first t.second)
    else if eqb t.number 3 then Err (push.TargetBufTooSmall t.second)
    else if eqb t.number 6 then Err push.BadState
    else Ok None

outcome-back : Outcome → Pushed
outcome-back o = record { next = o.next; answer = push-back o.answer }

push-undone : (a : Answer) → push-back (told a) ≡ a
unfolding push-back
push-undone (Ok None) = refl
push-undone (Ok (Some frame)) = refl
push-undone (Err (push.InvalidFrame bytes consumed)) = refl
push-undone (Err (push.TargetBufTooSmall consumed)) = refl
push-undone (Err push.BadState) = refl

outcome-undone : (r : Pushed) → outcome-back (outcome r) ≡ r
unfolding outcome-back
outcome-undone r = rw (push-undone r.answer)

decoded-back : Told → Result Frame DecodeError
decoded-back t =
    if is_done t then Ok (record { size = t.first; parsed = t.second })
    else if eqb t.number 1 then Err refused.EmptyFrame
    else if eqb t.number 2 then Err (refused.InvalidFrame t.first)
    else Err refused.TargetBufTooSmall

decoded-undone : (r : Result Frame DecodeError) → decoded-back (decoded_told r) ≡ r
unfolding decoded-back
decoded-undone (Ok frame) = refl
decoded-undone (Err refused.EmptyFrame) = refl
decoded-undone (Err (refused.InvalidFrame bytes)) = refl
decoded-undone (Err refused.TargetBufTooSmall) = refl

-- ---- the state

pub unique-DecoderState-new : (r s : DecoderState) → r ≡ Idle → s ≡ Idle → r ≡ s
unique-DecoderState-new r s p q = p ∙ sym q

pub unique-step : (d : DecoderState) (b : ℕ) (r s : Stepped) → r ≡ stepped d b → s ≡ stepped d b → r ≡ s
unique-step d b r s p q = p ∙ sym q

-- a result, and the state behind the reference after it
pub unique-DecoderState-feed : (d : DecoderState) (b : ℕ) (r s : Given) (k l : DecoderState) → Feeds d b r k → Feeds d b s l → (r ≡ s) × (k ≡ l)
unique-DecoderState-feed d b r s k l p q = (p.result ∙ sym q.result, p.state ∙ sym q.state)

pub unique-fed : (d : DecoderState) (b : ℕ) (r s : Stepped) → r ≡ stepped d b → s ≡ stepped d b → r ≡ s
unique-fed = unique-step

-- ---- the streaming decoder

pub unique-CobsDecoder-new : (r s : CobsDecoder) → r ≡ new → s ≡ new → r ≡ s
unique-CobsDecoder-new r s p q = p ∙ sym q

-- A result and the destination after it meet the promise of a call with a told answer and a memory.
abbrev pub Meets : {A B : Type 0} (tells : A → B) (t : B) (m : List ℕ) → A → List ℕ → Type 0
Meets tells t m r after = (tells r ≡ t) × (after ≡ m)

pub one : {A B : Type 0} (tells : A → B) (back : B → A) → ((a : A) → back (tells a) ≡ a) → (t : B) (m : List ℕ) (r s : A) (k l : List ℕ)
    → Meets tells t m r k → Meets tells t m s l → (r ≡ s) × (k ≡ l)
one tells back undone t m r s k l p q = (one-result tells back undone p.0 q.0, p.1 ∙ sym q.1)

abbrev Pushes : (d : CobsDecoder) (piece dest : List ℕ) → Pushed → List ℕ → Type 0
Pushes d piece dest = Meets outcome (push_outcome d (length dest) piece) (push_dest d piece dest)

pub unique-push : (d : CobsDecoder) (piece dest : List ℕ) (r s : Pushed) (k l : List ℕ) → Pushes d piece dest r k → Pushes d piece dest s l → (r ≡ s) × (k ≡ l)
unique-push d piece dest r s k l p q = one outcome outcome-back outcome-undone (push_outcome d (length dest) piece) (push_dest d piece dest) r s k l p q

pub unique-CobsDecoder-feed : (d : CobsDecoder) (b : ℕ) (dest : List ℕ) (r s : Pushed) (k l : List ℕ) → Pushes d (b ∷ []) dest r k → Pushes d (b ∷ []) dest s l
    → (r ≡ s) × (k ≡ l)
unique-CobsDecoder-feed d b dest r s k l p q = unique-push d (b ∷ []) dest r s k l p q

-- ---- the one-shot call

abbrev Decodes : (src dest : List ℕ) → Result Frame DecodeError → List ℕ → Type 0
Decodes src dest = Meets decoded_told (decode_told src (length dest)) (decode_dest src dest)

pub unique-decode : (src dest : List ℕ) (r s : Result Frame DecodeError) (k l : List ℕ) → Decodes src dest r k → Decodes src dest s l → (r ≡ s) × (k ≡ l)
unique-decode src dest r s k l p q = one decoded_told decoded-back decoded-undone (decode_told src (length dest)) (decode_dest src dest) r s k l p q
