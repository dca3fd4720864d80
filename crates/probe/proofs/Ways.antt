-- The ways through the calls, over plain values. Assumes nothing.
use Rattle.std.specs.Prelude.{Ok, Err}
use mathlib.Core.Path.{◌≡◌, refl, sym, ap, ◌∙◌}
use mathlib.Core.Bool.{Bool, true, false}
use mathlib.Core.List.{List}
use native.Mathlib.Omega.{arith}
use Prim.Native.Nat.{ℕ}
use lib.Dec.{eqb}
use lib.ListN.{length}
use borrow.Author.Tests.{eq-eqb, ne_eqb}
use Rattle.cobs.specs.Code.{over}
use Rattle.cobs.specs.Answers.{tell}
use Rattle.cobs.specs.declared.refusals.DestBufTooSmall.{DestBufTooSmall}
use Rattle.enc.specs.Stream.{started, push_told, push_next, push_dest}
use Rattle.enc.specs.declared.stream.Encoder.{Encoder}
use Rattle.enc.proofs.Calls.{ready_fresh}
use Rattle.dec.specs.State.{stepped, told_given, given_told}
use Rattle.dec.specs.declared.state.DecoderState.{DecoderState}
use Rattle.dec.specs.declared.state.Stepped.{Stepped}
use Rattle.dec.specs.declared.stream.CobsDecoder.{CobsDecoder}
use Rattle.dec.specs.declared.stream.Pushed.{Pushed}
use Rattle.dec.specs.Stream.{Outcome, told, outcome, push_outcome, push_dest as decode_dest}
use Rattle.probe.specs.Numbers.{state_from, tag, to_come, encoder_of, encoder_numbers, decoder_of, decoder_numbers, start_told, start_numbers, push_numbers, decoded, decode_numbers}

-- ---- the encoder's start

module _ (numbers : List ℕ) (room : ℕ) where
  pub start_nowhere : (length numbers ≡ 4 → ⊥) → (tell 6 0 0 ≡ start_told numbers room) × (numbers ≡ start_numbers numbers room)
  unfolding start_told start_numbers
  start_nowhere h = (simp (ne_eqb _ _ h), simp (ne_eqb _ _ h))

  pub start-refused : (r : DestBufTooSmall) → length numbers ≡ 4 → Err r ≡ started room
      → (tell 4 0 0 ≡ start_told numbers room) × (numbers ≡ start_numbers numbers room)
  unfolding start_told start_numbers started
  start-refused r h p = go (eqb room 0) refl
    where
      go : (b : Bool) → eqb room 0 ≡ b → (tell 4 0 0 ≡ start_told numbers room) × (numbers ≡ start_numbers numbers room)
      go true e = (simp (eq-eqb _ _ h, e), simp (eq-eqb _ _ h, e))
      go false e = let q = rw e at p in let z : ◌≡◌ {A = ℕ} 0 1 = cc in absurd (omega arith)

  pub start_ready : (e : Encoder) (k : List ℕ) → length numbers ≡ 4 → Ok e ≡ started room → k ≡ over (encoder_numbers e) numbers
      → (tell 0 0 0 ≡ start_told numbers room) × (k ≡ start_numbers numbers room)
  unfolding start_told start_numbers
  start_ready e k h p r =
      let q = ready_fresh room e (sym p) in
      (simp (eq-eqb _ _ h, ne_eqb room 0 (omega (arith, q.0))), simp (eq-eqb _ _ h, ne_eqb room 0 (omega (arith, q.0))) (r ∙ ap (λ (x : Encoder). over (encoder_numbers x) numbers) q.1))

-- ---- the pushes

-- The way to the encoder that the numbers name.
module _ (numbers piece d d' : List ℕ) (e : Encoder) (p : e ≡ encoder_of numbers) (n : ℕ) (q : tell n 0 0 ≡ push_told e piece (length d)) (r : d' ≡ push_dest e piece d) where
  answer : tell n 0 0 ≡ push_told (encoder_of numbers) piece (length d)
  answer = q ∙ ap (λ (x : Encoder). push_told x piece (length d)) p

  memory : d' ≡ push_dest (encoder_of numbers) piece d
  memory = r ∙ ap (λ (x : Encoder). push_dest x piece d) p

  pub push-refused : (n ≡ 0 → ⊥)
      → (tell n 0 0 ≡ push_told (encoder_of numbers) piece (length d)) × ((numbers ≡ push_numbers numbers piece (length d)) × (d' ≡ push_dest (encoder_of numbers) piece d))
  unfolding push_numbers
  push-refused h = (answer, (simp (← answer, ne_eqb _ _ h), memory))

  pub push-accepted : (next : Encoder) (k : List ℕ) → n ≡ 0 → next ≡ push_next e piece (length d) → k ≡ over (encoder_numbers next) numbers
      → (tell 0 0 0 ≡ push_told (encoder_of numbers) piece (length d)) × ((k ≡ push_numbers numbers piece (length d)) × (d' ≡ push_dest (encoder_of numbers) piece d))
  unfolding push_numbers
  push-accepted next k z s t =
      let a = ap (λ (x : ℕ). tell x 0 0) (sym z) ∙ answer in
      (a, (simp (← a) (t ∙ ap (λ (x : Encoder). over (encoder_numbers x) numbers) (s ∙ ap (λ (x : Encoder). push_next x piece (length d)) p)), memory))

-- The same for the decoder.
module _ (numbers piece d d' : List ℕ) (e : CobsDecoder) (p : e ≡ decoder_of numbers) (r : Pushed) (q : outcome r ≡ push_outcome e (length d) piece)
    (s : d' ≡ decode_dest e piece d) (n a b : ℕ) (t : tell n a b ≡ told r.answer) where
  whole : outcome r ≡ decoded numbers piece (length d)
  whole = q ∙ ap (λ (x : CobsDecoder). push_outcome x (length d) piece) p

  answers : tell n a b ≡ (decoded numbers piece (length d)).answer
  answers = t ∙ ap (λ (o : Outcome). o.answer) whole

  memories : d' ≡ decode_dest (decoder_of numbers) piece d
  memories = s ∙ ap (λ (x : CobsDecoder). decode_dest x piece d) p

  pub decode-bad : n ≡ 6
      → (tell 6 a b ≡ (decoded numbers piece (length d)).answer) × ((numbers ≡ decode_numbers numbers piece (length d)) × (d' ≡ decode_dest (decoder_of numbers) piece d))
  unfolding decode_numbers
  decode-bad z = let c = ap (λ (x : ℕ). tell x a b) (sym z) ∙ answers in (c, (simp (← c), memories))

  pub decode-took : (k : List ℕ) → (n ≡ 6 → ⊥) → k ≡ over (decoder_numbers r.next) numbers
      → (tell n a b ≡ (decoded numbers piece (length d)).answer) × ((k ≡ decode_numbers numbers piece (length d)) × (d' ≡ decode_dest (decoder_of numbers) piece d))
  unfolding decode_numbers
  decode-took k h u =
      (answers, (simp (← answers, ne_eqb _ _ h) (u ∙ ap (λ (o : Outcome). over (decoder_numbers o.next) numbers) whole), memories))

-- ---- one byte to the decoder's state

pub step-told : (tag₀ left₀ byte n g p tag₁ left₁ : ℕ) (s : DecoderState) (r : Stepped) → s ≡ state_from tag₀ left₀
    → (r ≡ stepped s byte) × (told_given r.result ≡ given_told s byte)
    → tell n g p ≡ told_given r.result → tag₁ ≡ tag r.state → left₁ ≡ to_come r.state
    → (tell n g p ≡ given_told (state_from tag₀ left₀) byte)
    × ((tag₁ ≡ tag (stepped (state_from tag₀ left₀) byte).state) × (left₁ ≡ to_come (stepped (state_from tag₀ left₀) byte).state))
step-told tag₀ left₀ byte n g p tag₁ left₁ s r is q t u v =
    let e = q.0 ∙ ap (λ (x : DecoderState). stepped x byte) is in
    (t ∙ q.1 ∙ ap (λ (x : DecoderState). given_told x byte) is, (u ∙ ap (λ (x : Stepped). tag x.state) e, v ∙ ap (λ (x : Stepped). to_come x.state) e))
