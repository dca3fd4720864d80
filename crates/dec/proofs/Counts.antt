-- A piece that stops: what its outcome has of the byte that stopped it, and how many bytes it took. Assumes nothing.
use Rattle.std.specs.Prelude.{Ok, Err}
use mathlib.Core.Path.{◌≡◌, refl, sym, ap, ◌∙◌}
use mathlib.Core.Bool.{true, false, false≢true}
use mathlib.Core.List.{List, [], ◌∷◌}
use Prim.Native.Nat.{ℕ, zero, suc, ◌≤◌, ◌<◌}
use native.Mathlib.Omega.{arith}
use lib.Dec.{ltb}
use lib.ListN.{length, take}
use Rattle.dec.specs.State.{Given, stepped}
use Rattle.dec.specs.Stream.{skipping, Outcome, is_more, result_outcome, byte_outcome, further, piece_outcome}
use Rattle.dec.specs.declared.state.DecoderState.{DecoderState}
use Rattle.dec.specs.declared.state.DecodeResult.TheVariants.{NoData, DataStart, DataComplete, DataContinue}
use Rattle.dec.specs.declared.stream.CobsDecoder.{CobsDecoder}
use Rattle.dec.proofs.Cases.{by_bool}
use Rattle.dec.proofs.Pieces.{further-keeps, further-counts, further-more, further-next, piece_goes, piece_stops, byte-goes}
use Rattle.dec.proofs.Restart.{byte-counts, used-within}

-- What an outcome that stops has: the write place is 0 again, and after a byte that had no room the decoder skips.
pub record Rests (o : Outcome) : Type 0 where
  pub place : o.next.place ≡ 0
  pub small : o.answer.number ≡ 3 → o.next ≡ skipping

further-number : (n : ℕ) (o : Outcome) → (further n o).answer.number ≡ o.answer.number
further-number n o = by_bool (is_more o) (λ e. rw (further-keeps n o e)) (λ e. rw (further-counts n o e))

rests_further : (o : Outcome) → Rests o → Rests (further 1 o)
rests_further o w =
    record { place = rw (further-next 1 o) w.place; small = λ e. rw (further-next 1 o) (w.small (sym (further-number 1 o) ∙ e)) }

result_rests : (place room : ℕ) (s : DecoderState) (r : Given) → is_more (result_outcome place room s r) ≡ false → Rests (result_outcome place room s r)
result_rests place room s (Ok NoData) e = absurd (false≢true (sym e))
result_rests place room s (Ok DataStart) e = absurd (false≢true (sym e))
result_rests place room s (Ok DataComplete) e = record { place = refl; small = λ q. absurd (omega (arith, q)) }
result_rests place room s (Ok (DataContinue x)) e =
    by_bool (ltb place room) (λ q. absurd (false≢true (sym (rw q at e)))) (λ q. rw q (record { place = refl; small = λ _. refl }))
result_rests place room s (Err _) e = record { place = refl; small = λ q. absurd (omega (arith, q)) }

byte_rests : (d : CobsDecoder) (room b : ℕ) → is_more (byte_outcome d room b) ≡ false → Rests (byte_outcome d room b)
unfolding byte_outcome
byte_rests d room b e =
    by_bool d.skip (λ q. absurd (false≢true (sym (rw q at e))))
    (λ q. rw q (result_rests d.place room (stepped d.state b).state (stepped d.state b).result (rw q at e)))

-- The outcome of a piece, b first, that goes on after b.
module _ (d : CobsDecoder) (room b : ℕ) (p : List ℕ) (e : is_more (byte_outcome d room b) ≡ true) where
  abbrev rest : Outcome
  rest = piece_outcome (byte_outcome d room b).next room p

  on : piece_outcome d room (b ∷ p) ≡ further 1 rest
  on = piece_goes d room b p (byte_outcome d room b).next (byte-goes d room b e)

  rest-stops : is_more (piece_outcome d room (b ∷ p)) ≡ false → is_more rest ≡ false
  rest-stops f = sym (further-more 1 rest) ∙ ap is_more (sym on) ∙ f

  rest-counts : is_more (piece_outcome d room (b ∷ p)) ≡ false → (piece_outcome d room (b ∷ p)).answer.second ≡ suc rest.answer.second
  rest-counts f = ap (λ (o : Outcome). o.answer.second) (on ∙ further-counts 1 rest (rest-stops f)) ∙ omega arith

pub piece_rests : (p : List ℕ) (d : CobsDecoder) (room : ℕ) → is_more (piece_outcome d room p) ≡ false → Rests (piece_outcome d room p)
unfolding piece_outcome
piece_rests [] d room f = absurd (false≢true (sym f))
piece_rests (b ∷ p) d room f =
    by_bool (is_more (byte_outcome d room b))
    (λ e. rw (on d room b p e) (rests_further (rest d room b p e) (piece_rests p (byte_outcome d room b).next room (rest-stops d room b p e f))))
    (λ e. rw (piece_stops d room b p e) (byte_rests d room b e))

pub piece_some : (p : List ℕ) (d : CobsDecoder) (room : ℕ) → is_more (piece_outcome d room p) ≡ false → 0 < (piece_outcome d room p).answer.second
unfolding piece_outcome
piece_some [] d room f = absurd (false≢true (sym f))
piece_some (b ∷ p) d room f =
    by_bool (is_more (byte_outcome d room b)) (λ e. omega (arith, rest-counts d room b p e f))
    (λ e. rw (piece_stops d room b p e) (omega (arith, byte-counts d room b e)))

pub piece_within : (p : List ℕ) (d : CobsDecoder) (room : ℕ) → is_more (piece_outcome d room p) ≡ false → (piece_outcome d room p).answer.second ≤ length p
piece_within p d room f = rw f at (used-within p d room)

-- the piece of so many bytes gives the same
pub piece_enough : (p : List ℕ) (d : CobsDecoder) (room : ℕ) → is_more (piece_outcome d room p) ≡ false
    → piece_outcome d room (take (piece_outcome d room p).answer.second p) ≡ piece_outcome d room p
unfolding piece_outcome
piece_enough [] d room f = absurd (false≢true (sym f))
piece_enough (b ∷ p) d room f =
    by_bool (is_more (byte_outcome d room b))
    (λ e.
    ap (λ (n : ℕ). piece_outcome d room (take n (b ∷ p))) (rest-counts d room b p e f)
    ∙ on d room b (take (rest d room b p e).answer.second p) e
    ∙ ap (further 1) (piece_enough p (byte_outcome d room b).next room (rest-stops d room b p e f))
    ∙ sym (on d room b p e))
    (λ e.
    let one : (piece_outcome d room (b ∷ p)).answer.second ≡ 1 = rw (piece_stops d room b p e) (byte-counts d room b e) in
    ap (λ (n : ℕ). piece_outcome d room (take n (b ∷ p))) one ∙ piece_stops d room b [] e ∙ sym (piece_stops d room b p e))

-- and of fewer it asks for more
pub piece_fewer : (p : List ℕ) (d : CobsDecoder) (room : ℕ) → is_more (piece_outcome d room p) ≡ false → (k : ℕ)
    → k < (piece_outcome d room p).answer.second → is_more (piece_outcome d room (take k p)) ≡ true
unfolding piece_outcome
piece_fewer [] d room f k h = absurd (false≢true (sym f))
piece_fewer (b ∷ p) d room f zero h = refl
piece_fewer (b ∷ p) d room f (suc k) h =
    by_bool (is_more (byte_outcome d room b))
    (λ e.
    ap is_more (on d room b (take k p) e)
    ∙ further-more 1 (rest d room b (take k p) e)
    ∙ piece_fewer p (byte_outcome d room b).next room (rest-stops d room b p e f) k (omega (arith, rest-counts d room b p e f)))
    (λ e.
    let one : (piece_outcome d room (b ∷ p)).answer.second ≡ 1 = rw (piece_stops d room b p e) (byte-counts d room b e) in
    absurd (omega arith))
