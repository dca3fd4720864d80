-- While skipping, everything through the next zero is dropped; and an early zero is refused. Assumes nothing.
use Rattle.std.specs.Prelude.{Err}
use mathlib.Core.Path.{◌≡◌, refl, sym, ap, ◌∙◌}
use mathlib.Core.Bool.{false, false≢true}
use mathlib.Core.List.{List, [], ◌∷◌, ◌++◌}
use Prim.Native.Nat.{ℕ, zero, suc}
use native.Mathlib.Nat.{not-suc-le-zero}
use native.Mathlib.Numerals.{add-one}
use native.Mathlib.Omega.{arith}
use lib.ListN.{length}
use borrow.Author.Tests.{ne_eqb}
use Rattle.cobs.specs.Code.{NoZero}
use Rattle.cobs.specs.Answers.{invalid_frame}
use Rattle.dec.specs.State.{stepped, given_told}
use Rattle.dec.specs.Stream.{new, skipping, is_idle, bad, Outcome, goes, stops, is_more, byte_outcome, byte_dest, further, joined, piece_outcome, piece_dest, push_outcome, push_dest}
use Rattle.dec.specs.Sentences.{Drops}
use Rattle.dec.specs.declared.state.DecoderState.{DecoderState}
use Rattle.dec.specs.declared.state.DecoderState.TheVariants.{Idle, Grab, GrabChain}
use Rattle.dec.specs.declared.stream.CobsDecoder.{CobsDecoder}
use Rattle.dec.proofs.Cases.{by_bool}
use Rattle.dec.proofs.Good.{good_of, new-good, skipping-good}
use Rattle.dec.proofs.Pieces.{further-keeps, further_add, joined-more, piece_goes, piece_stops, dest-goes, push_piece, push_dest_piece, push-cut, push_dest-cut}

-- ---- skipping

module _ (room : ℕ) where
  skip_byte : (n : ℕ) → byte_outcome skipping room (suc n) ≡ goes skipping
  unfolding byte_outcome
  skip_byte n = rw (ne_eqb (suc n) 0 (λ e. omega arith))

  skip_zero : byte_outcome skipping room 0 ≡ goes new
  unfolding byte_outcome
  skip_zero = refl

  skip_piece : (s : List ℕ) → NoZero s → piece_outcome skipping room s ≡ goes skipping
  unfolding piece_outcome
  skip_piece [] h = refl
  skip_piece (zero ∷ s) h = absurd (not-suc-le-zero h.0)
  skip_piece (suc n ∷ s) h =
      piece_goes skipping room (suc n) s skipping (skip_byte n) ∙ ap (further 1) (skip_piece s h.1) ∙ further-keeps 1 (goes skipping) refl

  skip_dest : (s m : List ℕ) → NoZero s → piece_dest skipping room s m ≡ m
  unfolding piece_dest byte_dest
  skip_dest [] m h = refl
  skip_dest (zero ∷ s) m h = absurd (not-suc-le-zero h.0)
  skip_dest (suc n ∷ s) m h = dest-goes skipping room (suc n) s skipping (skip_byte n) m ∙ skip_dest s m h.1

  skip_more : (s : List ℕ) → NoZero s → push_outcome skipping room s ≡ goes skipping
  skip_more s h = push_piece skipping room (skipping-good room) s ∙ skip_piece s h

  skip_through : (s t : List ℕ) → NoZero s → push_outcome skipping room (s ++ 0 ∷ t) ≡ further (suc (length s)) (push_outcome new room t)
  skip_through s t h =
      push-cut skipping s (0 ∷ t) room (skipping-good room)
      ∙ ap (λ (o : Outcome). joined o (length s) (push_outcome o.next room (0 ∷ t))) (skip_more s h)
      ∙ joined-more (length s) (goes skipping) (push_outcome skipping room (0 ∷ t)) refl
      ∙ ap (further (length s)) (push_piece skipping room (skipping-good room) (0 ∷ t) ∙ piece_goes skipping room 0 t new skip_zero)
      ∙ further_add (length s) 1 (piece_outcome new room t)
      ∙ rw (add-one (length s), push_piece new room (new-good room) t)

skip_kept : (s m : List ℕ) → NoZero s → push_dest skipping s m ≡ m
skip_kept s m h = push_dest_piece skipping s m (skipping-good (length m)) ∙ skip_dest (length m) s m h

skip_memory : (s t m : List ℕ) → NoZero s → push_dest skipping (s ++ 0 ∷ t) m ≡ push_dest new t m
unfolding byte_dest
skip_memory s t m h =
    let after : push_dest skipping (0 ∷ t) m ≡ push_dest new t m =
    push_dest_piece skipping (0 ∷ t) m (skipping-good (length m))
    ∙ dest-goes skipping (length m) 0 t new (skip_zero (length m)) m
    ∙ sym (push_dest_piece new t m (new-good (length m))) in
    push_dest-cut skipping s (0 ∷ t) m (skipping-good (length m)) ∙ rw (skip_more (length m) s h, skip_kept s m h) after

pub skipping_drops : (room : ℕ) → Drops skipping room
skipping_drops room =
    record {
      inside = skip_more room;
      inside_dest = λ s m h _. skip_kept s m h;
      through = skip_through room;
      through_dest = λ s t m h _. skip_memory s t m h;
    }

-- ---- an early zero

is_early : (s : DecoderState) → given_told s 0 ≡ invalid_frame 0 0 → ((stepped s 0).result ≡ Err (record {})) × (is_idle s ≡ false)
is_early Idle e = let z : ◌≡◌ {A = ℕ} 0 2 = ap (λ t. t.number) e in absurd (omega arith)
is_early (Grab zero) e = let z : ◌≡◌ {A = ℕ} 0 2 = ap (λ t. t.number) e in absurd (omega arith)
is_early (Grab (suc left)) e = (refl, refl)
is_early (GrabChain zero) e = let z : ◌≡◌ {A = ℕ} 0 2 = ap (λ t. t.number) e in absurd (omega arith)
is_early (GrabChain (suc left)) e = (refl, refl)

module _ (d : CobsDecoder) (room : ℕ) (g : bad d room ≡ false) (e : given_told d.state 0 ≡ invalid_frame 0 0) where
  early-byte : byte_outcome d room 0 ≡ stops new (invalid_frame d.place 1)
  unfolding byte_outcome
  early-byte =
      let w = is_early d.state e in
      by_bool d.skip (λ q. absurd (false≢true (sym w.1 ∙ (good_of d room g).rest q))) (λ q. rw (q, w.0))

  pub early_zero : (t : List ℕ) → push_outcome d room (0 ∷ t) ≡ stops new (invalid_frame d.place 1)
  early_zero t = push_piece d room g (0 ∷ t) ∙ piece_stops d room 0 t (ap is_more early-byte) ∙ early-byte
