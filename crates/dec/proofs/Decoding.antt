-- A law for each way through `decode`: the first push stopped, or the zero that was missing is fed. Assumes nothing.
use Rattle.std.specs.Prelude.{if◌then◌else◌, Result, Some, None, Ok, Err}
use mathlib.Core.Path.{◌≡◌, refl, sym, ap, ◌∙◌, subst}
use mathlib.Core.Bool.{true, false}
use mathlib.Core.List.{List, [], ◌∷◌}
use Prim.Native.Nat.{ℕ, ◌≤◌}
use native.Mathlib.Omega.{arith}
use lib.ListN.{length}
use Rattle.cobs.specs.Code.{read, read_in}
use Rattle.cobs.specs.Answers.{done}
use Rattle.cobs.specs.OneShot.{meant, decoded, decode_told, decode_dest}
use Rattle.dec.specs.Stream.{new, Outcome, told, outcome, is_more, further, joined, used, push_outcome, push_dest}
use Rattle.dec.specs.Calls.{decoded_told, stopped}
use Rattle.dec.specs.declared.stream.CobsDecoder.{CobsDecoder}
use Rattle.dec.specs.declared.stream.Frame.{Frame}
use Rattle.dec.specs.declared.stream.PushError.{PushError}
use Rattle.dec.specs.declared.stream.PushError.TheVariants as push
use Rattle.dec.specs.declared.stream.Pushed.{Pushed}
use Rattle.dec.specs.declared.decode.DecodeError.{DecodeError}
use Rattle.dec.specs.declared.decode.DecodeError.TheVariants.{EmptyFrame, InvalidFrame}
use Rattle.dec.proofs.Answers.{refusal_stops}
use Rattle.dec.proofs.Good.{new-good}
use Rattle.dec.proofs.Pieces.{joined-more, joined_stop, push_piece, push-cut, push_dest-cut}
use Rattle.dec.proofs.Restart.{used-within}
use Rattle.dec.proofs.Sources.{one_shot, decode-streams, decode_dest-streams}

-- The answer r and the memory m' are those of decoding src into m.
abbrev Decodes : (src m : List ℕ) (r : Result Frame DecodeError) (m' : List ℕ) → Type 0
Decodes src m r m' = (decoded_told r ≡ decode_told src (length m)) × (m' ≡ decode_dest src m)

pub decode_empty : (src m : List ℕ) → length src ≡ 0 → Decodes src m (Err EmptyFrame) m
unfolding decode_told decode_dest decoded meant read read_in
decode_empty [] m e = (refl, refl)
decode_empty (b ∷ src) m e = absurd (omega arith)

refused : (n : ℕ) (e : PushError) → decoded_told (Err (stopped e)) ≡ one_shot n (told (Err e))
refused n (push.InvalidFrame decoded consumed) = refl
refused n (push.TargetBufTooSmall consumed) = refl
refused n push.BadState = refl

further-refused : (n : ℕ) (d : CobsDecoder) (e : PushError)
    → decoded_told (Err (stopped e)) ≡ one_shot n (further n (outcome (record { next = d; answer = Err e }))).answer
unfolding further
further-refused n d (push.InvalidFrame decoded consumed) = refl
further-refused n d (push.TargetBufTooSmall consumed) = refl
further-refused n d push.BadState = refl

further-none : (n : ℕ) (d : CobsDecoder)
    → decoded_told (Err (InvalidFrame 0)) ≡ one_shot n (further n (outcome (record { next = d; answer = Ok None }))).answer
unfolding further
further-none n d = refl

-- the zero was supplied: all n bytes of the source are parsed
further-frame : (n : ℕ) (d : CobsDecoder) (f : Frame)
    → decoded_told (Ok (record { size = f.size; parsed = n })) ≡ one_shot n (further n (outcome (record { next = d; answer = Ok (Some f) }))).answer
unfolding further
further-frame n d f = ap (done f.size) (omega arith)

module _ (src m : List ℕ) (some : length src ≡ 0 → ⊥) (d : CobsDecoder) (ed : d ≡ new) (p : Pushed) (ep : outcome p ≡ push_outcome d (length m) src)
    (m₁ : List ℕ) (em : m₁ ≡ push_dest d src m) where
  first : push_outcome new (length m) src ≡ outcome p
  first = sym (ep ∙ ap (λ (x : CobsDecoder). push_outcome x (length m) src) ed)

  first-dest : push_dest new src m ≡ m₁
  first-dest = sym (em ∙ ap (λ (x : CobsDecoder). push_dest x src m) ed)

  whole-answer : decode_told src (length m)
      ≡ one_shot (length src) (joined (outcome p) (length src) (push_outcome p.next (length m) (0 ∷ []))).answer
  whole-answer =
      decode-streams src (omega (arith, some)) (length m)
      ∙ ap (λ (o : Outcome). one_shot (length src) o.answer)
      (push-cut new src (0 ∷ []) (length m) (new-good (length m))
      ∙ ap (λ (o : Outcome). joined o (length src) (push_outcome o.next (length m) (0 ∷ []))) first)

  whole-memory : decode_dest src m ≡ (if is_more (outcome p) then push_dest p.next (0 ∷ []) m₁ else m₁)
  whole-memory = decode_dest-streams src m ∙ push_dest-cut new src (0 ∷ []) m (new-good (length m)) ∙ rw (first, first-dest)

  -- the push of the source stopped
  module _ (f : is_more (outcome p) ≡ false) where
    within : (told p.answer).second ≤ length src
    within =
        let w : used (length src) (outcome p) ≤ length src =
        subst (λ (o : Outcome). used (length src) o ≤ length src) (sym (push_piece new (length m) (new-good (length m)) src) ∙ first) (used-within src new (length m)) in
        rw f at w

    stopped-as : (r : Result Frame DecodeError) → decoded_told r ≡ one_shot (length src) (told p.answer) → Decodes src m r m₁
    stopped-as r e = (
      e ∙ sym (whole-answer ∙ ap (λ (o : Outcome). one_shot (length src) o.answer) (joined_stop (length src) (outcome p) (push_outcome p.next (length m) (0 ∷ [])) f)),
      sym (whole-memory ∙ rw f),
    )

  pub decode-refused : (e : PushError) → p.answer ≡ Err e → Decodes src m (Err (stopped e)) m₁
  decode-refused e q = stopped-as (rw q (refusal_stops p.next e)) (Err (stopped e)) (rw q (refused (length src) e))

  pub decode-found : (f : Frame) → p.answer ≡ Ok (Some f) → Decodes src m (Ok f) m₁
  decode-found f q =
      let w : f.parsed ≤ length src = rw q at (within (rw q)) in
      stopped-as (rw q) (Ok f) (rw q (ap (done f.size) (omega arith)))

  -- or it used the source up, and the zero is fed
  module _ (more : p.answer ≡ Ok None) (l : length m₁ ≡ length m) (z : Pushed) (ez : outcome z ≡ push_outcome p.next (length m₁) (0 ∷ []))
      (m₂ : List ℕ) (em₂ : m₂ ≡ push_dest p.next (0 ∷ []) m₁) where
    is-more : is_more (outcome p) ≡ true
    is-more = rw more

    closed-answer : decode_told src (length m) ≡ one_shot (length src) (further (length src) (outcome z)).answer
    closed-answer =
        whole-answer
        ∙ ap (λ (o : Outcome). one_shot (length src) o.answer)
        (joined-more (length src) (outcome p) (push_outcome p.next (length m) (0 ∷ [])) is-more
        ∙ ap (further (length src)) (sym (ez ∙ ap (λ (n : ℕ). push_outcome p.next n (0 ∷ [])) l)))

    closed-memory : m₂ ≡ decode_dest src m
    closed-memory = em₂ ∙ sym (whole-memory ∙ rw is-more)

    pub closed-refused : (e : PushError) → z.answer ≡ Err e → Decodes src m (Err (stopped e)) m₂
    closed-refused e q = (further-refused (length src) z.next e ∙ sym (closed-answer ∙ rw q), closed-memory)

    pub closed-none : z.answer ≡ Ok None → Decodes src m (Err (InvalidFrame 0)) m₂
    closed-none q = (further-none (length src) z.next ∙ sym (closed-answer ∙ rw q), closed-memory)

    pub closed-frame : (f : Frame) → z.answer ≡ Ok (Some f) → Decodes src m (Ok (record { size = f.size; parsed = length src })) m₂
    closed-frame f q = (further-frame (length src) z.next f ∙ sym (closed-answer ∙ rw q), closed-memory)
