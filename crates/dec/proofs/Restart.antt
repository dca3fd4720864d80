-- After any bytes that end in zero, over as many calls as they take, the decoder is new. Assumes nothing.
use Rattle.std.specs.Prelude.{Ok, Err}
use mathlib.Core.Path.{◌≡◌, refl, sym, ap, ◌∙◌}
use mathlib.Core.Bool.{true, false, false≢true}
use mathlib.Core.List.{List, [], ◌∷◌, ◌++◌}
use Prim.Native.Nat.{ℕ, zero, suc, ◌≤◌, zero-le}
use native.Mathlib.Omega.{arith}
use lib.Dec.{ltb}
use lib.ListN.{length, take, drop, take-append-drop}
use lib.Seq.{take-append-le}
use Rattle.dec.specs.State.{Given, stepped}
use Rattle.dec.specs.Stream.{at, new, bad, Outcome, goes, is_more, result_outcome, byte_outcome, further, piece_outcome, used, push_outcome}
use Rattle.dec.specs.Sentences.{Pushes, none, push}
use Rattle.dec.specs.declared.state.DecoderState.{DecoderState}
use Rattle.dec.specs.declared.state.DecoderState.TheVariants.{Idle, Grab, GrabChain}
use Rattle.dec.specs.declared.state.DecodeResult.TheVariants.{NoData, DataStart, DataComplete, DataContinue}
use Rattle.dec.specs.declared.stream.CobsDecoder.{CobsDecoder}
use Rattle.dec.proofs.Cases.{by_bool}
use Rattle.dec.proofs.Good.{Good, good_of, push-good}
use Rattle.dec.proofs.Pieces.{further-keeps, further-counts, further-next, piece_goes, piece_stops, byte-goes, push_piece}

-- The decoder after all the bytes, fed one by one, whatever frames and refusals they give.
unfoldable pub through : CobsDecoder → (room : ℕ) (bytes : List ℕ) → CobsDecoder
through d room [] = d
through d room (b ∷ s) = through (push_outcome d room (b ∷ [])).next room s

-- ---- one byte

fed : (d : CobsDecoder) (room b : ℕ) → bad d room ≡ false → (push_outcome d room (b ∷ [])).next ≡ (byte_outcome d room b).next
unfolding piece_outcome
fed d room b g =
    by_bool (is_more (byte_outcome d room b))
    (λ e.
    rw (push_piece d room g (b ∷ []), piece_goes d room b [] (byte_outcome d room b).next (byte-goes d room b e))
    (further-next 1 (goes (byte_outcome d room b).next)))
    (λ e. rw (push_piece d room g (b ∷ []), piece_stops d room b [] e))

result-counts : (place room : ℕ) (s : DecoderState) (r : Given) → is_more (result_outcome place room s r) ≡ false → (result_outcome place room s r).answer.second ≡ 1
result-counts place room s (Ok NoData) e = absurd (false≢true (sym e))
result-counts place room s (Ok DataStart) e = absurd (false≢true (sym e))
result-counts place room s (Ok DataComplete) e = refl
result-counts place room s (Ok (DataContinue x)) e = by_bool (ltb place room) (λ q. absurd (false≢true (sym (rw q at e)))) (λ q. rw q)
result-counts place room s (Err _) e = refl

-- a byte that stops the piece is counted
pub byte-counts : (d : CobsDecoder) (room b : ℕ) → is_more (byte_outcome d room b) ≡ false → (byte_outcome d room b).answer.second ≡ 1
unfolding byte_outcome
byte-counts d room b e =
    by_bool d.skip (λ q. absurd (false≢true (sym (rw q at e))))
    (λ q. rw q (result-counts d.place room (stepped d.state b).state (stepped d.state b).result (rw q at e)))

-- ---- a zero

zero_state : (s : DecoderState) (place room : ℕ) → (s ≡ Idle → place ≡ 0) → (result_outcome place room (stepped s 0).state (stepped s 0).result).next ≡ new
zero_state Idle place room h = ap (λ (n : ℕ). at n Idle) (h refl)
zero_state (Grab zero) place room h = refl
zero_state (Grab (suc left)) place room h = refl
zero_state (GrabChain zero) place room h = refl
zero_state (GrabChain (suc left)) place room h = refl

zero_byte : (d : CobsDecoder) (room : ℕ) → Good d room → (byte_outcome d room 0).next ≡ new
unfolding byte_outcome
zero_byte d room g = by_bool d.skip (λ q. rw q) (λ q. rw q (zero_state d.state d.place room (λ e. g.start (rw e))))

-- from every state that is not BadState
pub through_zero : (s : List ℕ) (d : CobsDecoder) (room : ℕ) → bad d room ≡ false → through d room (s ++ 0 ∷ []) ≡ new
unfolding through
through_zero [] d room g = fed d room 0 g ∙ zero_byte d room (good_of d room g)
through_zero (b ∷ s) d room g = through_zero s (push_outcome d room (b ∷ [])).next room (push-good d room (b ∷ []) g)

-- ---- a push goes through the bytes it used, and leaves the rest

used-further : (n : ℕ) (o : Outcome) → used (suc n) (further 1 o) ≡ suc (used n o)
used-further n o =
    by_bool (is_more o) (λ e. rw (further-keeps 1 o e, e)) (λ e. rw (further-counts 1 o e, e) (omega arith))

module _ (d : CobsDecoder) (room b : ℕ) (p : List ℕ) where
  used-goes : is_more (byte_outcome d room b) ≡ true
      → used (suc (length p)) (piece_outcome d room (b ∷ p)) ≡ suc (used (length p) (piece_outcome (byte_outcome d room b).next room p))
  used-goes e =
      rw (piece_goes d room b p (byte_outcome d room b).next (byte-goes d room b e))
      (used-further (length p) (piece_outcome (byte_outcome d room b).next room p))

  used-stops : is_more (byte_outcome d room b) ≡ false → used (suc (length p)) (piece_outcome d room (b ∷ p)) ≡ 1
  used-stops e = rw (piece_stops d room b p e, e) (byte-counts d room b e)

pub used-within : (p : List ℕ) (d : CobsDecoder) (room : ℕ) → used (length p) (piece_outcome d room p) ≤ length p
unfolding piece_outcome
used-within [] d room = zero-le
used-within (b ∷ p) d room =
    by_bool (is_more (byte_outcome d room b))
    (λ e. omega (arith, used-goes d room b p e, used-within p (byte_outcome d room b).next room))
    (λ e. omega (arith, used-stops d room b p e))

pub push-through : (p : List ℕ) (d : CobsDecoder) (room : ℕ) → bad d room ≡ false
    → (push_outcome d room p).next ≡ through d room (take (used (length p) (push_outcome d room p)) p)
unfolding through piece_outcome
push-through [] d room g = rw (push_piece d room g [])
push-through (b ∷ p) d room g =
    let d' : CobsDecoder = (push_outcome d room (b ∷ [])).next in
    let g' : bad d' room ≡ false = push-good d room (b ∷ []) g in
    let same : piece_outcome (byte_outcome d room b).next room p ≡ push_outcome d' room p =
    ap (λ (x : CobsDecoder). piece_outcome x room p) (sym (fed d room b g)) ∙ sym (push_piece d' room g' p) in
    by_bool (is_more (byte_outcome d room b))
    (λ e.
    rw (push_piece d room g (b ∷ p), used-goes d room b p e, piece_goes d room b p (byte_outcome d room b).next (byte-goes d room b e), further-next 1 (piece_outcome (byte_outcome d room b).next room p), same)
    (push-through p d' room g'))
    (λ e. rw (push_piece d room g (b ∷ p), used-stops d room b p e, piece_stops d room b p e) (sym (fed d room b g)))

-- ---- bytes handed over however cut

through-append : (s t : List ℕ) (d : CobsDecoder) (room : ℕ) → through d room (s ++ t) ≡ through (through d room s) room t
unfolding through
through-append [] t d room = refl
through-append (b ∷ s) t d room = through-append s t (push_outcome d room (b ∷ [])).next room

pub pushes_through : {room : ℕ} {d e : CobsDecoder} {s : List ℕ} → bad d room ≡ false → Pushes room d s e → e ≡ through d room s
unfolding through
pushes_through g none = refl
pushes_through {room} {d} {e} {s} g (push piece later q w) =
    let n : ℕ = used (length piece) (push_outcome d room piece) in
    let within : used (length piece) (push_outcome d room piece) ≤ length piece = rw (push_piece d room g piece) (used-within piece d room) in
    let front : take n piece ≡ take n s = sym (take-append-le n piece later within) ∙ ap (take n) q in
    pushes_through (push-good d room piece g) w
    ∙ ap (λ (x : CobsDecoder). through x room (drop n s)) (push-through piece d room g ∙ ap (through d room) front)
    ∙ sym (through-append (take n s) (drop n s) d room)
    ∙ ap (through d room) (take-append-drop n s)

-- one by one they all go in
pub pushes_all : (s : List ℕ) (d : CobsDecoder) (room : ℕ) → bad d room ≡ false → Pushes room d s (through d room s)
unfolding through piece_outcome
pushes_all [] d room g = none
pushes_all (b ∷ s) d room g =
    let next : CobsDecoder = (push_outcome d room (b ∷ [])).next in
    let one : used 1 (push_outcome d room (b ∷ [])) ≡ 1 =
    rw (push_piece d room g (b ∷ []))
    (by_bool (is_more (byte_outcome d room b)) (λ e. used-goes d room b [] e) (λ e. used-stops d room b [] e)) in
    push {d = d} {e = through next room s} (b ∷ []) s refl (rw one (pushes_all s next room (push-good d room (b ∷ []) g)))
