-- 01's sentences about the streaming decoder hold of every decoder that is not BadState. Assumes nothing.
use mathlib.Core.Path.{◌≡◌, refl, sym, ap, ◌∙◌, subst}
use mathlib.Core.Bool.{false}
use mathlib.Core.List.{List, [], ◌∷◌, ◌++◌}
use Prim.Native.Nat.{ℕ}
use native.Mathlib.Omega.{arith}
use lib.ListN.{length, take}
use Rattle.cobs.specs.Code.{read_in, read}
use Rattle.cobs.specs.Answers.{longest}
use Rattle.cobs.specs.OneShot.{meant, decoded, decode_dest}
use Rattle.dec.specs.Stream.{bad, Outcome, is_more, byte_outcome, further, joined, piece_outcome, push_outcome, push_dest}
use Rattle.dec.specs.Sentences.{Consumed, Drops, Sentences, Overfull, FromNew, full, Ends}
use Rattle.dec.specs.declared.stream.CobsDecoder.{CobsDecoder}
use Rattle.dec.proofs.Good.{push-good}
use Rattle.dec.proofs.Pieces.{length_piece, joined_stop, push_piece, push_dest_piece, push-cut, push_dest-cut}
use Rattle.dec.proofs.Restart.{through, through_zero, pushes_through, pushes_all}
use Rattle.dec.proofs.Counts.{piece_rests, piece_some, piece_within, piece_enough, piece_fewer}
use Rattle.dec.proofs.Dropped.{skipping_drops, early_zero}
use Rattle.dec.proofs.Sources.{push-memory}
use Rattle.dec.proofs.Overfull.{push-overfull, overfull-never}

module _ (d : CobsDecoder) (room : ℕ) (g : bad d room ≡ false) where
  -- A push is the piece, byte by byte.
  by_bytes : (p : List ℕ) → push_outcome d room p ≡ piece_outcome d room p
  by_bytes = push_piece d room g

  abbrev Stops : List ℕ → Type 0
  Stops p = is_more (push_outcome d room p) ≡ false

  stops_piece : (p : List ℕ) → Stops p → is_more (piece_outcome d room p) ≡ false
  stops_piece p f = ap is_more (sym (by_bytes p)) ∙ f

  stopping : (p q : List ℕ) → Stops p → push_outcome d room (p ++ q) ≡ push_outcome d room p
  stopping p q f =
      push-cut d p q room g ∙ joined_stop (length p) (push_outcome d room p) (push_outcome (push_outcome d room p).next room q) f

  stopping-dest : (p q m : List ℕ) → length m ≡ room → Stops p → push_dest d (p ++ q) m ≡ push_dest d p m
  stopping-dest p q m l f =
      let stopped : is_more (push_outcome d (length m) p) ≡ false = rw l f in
      push_dest-cut d p q m (rw l g) ∙ rw stopped

  consumed : (p : List ℕ) → Stops p → Consumed d room p (push_outcome d room p).answer.second
  consumed p f =
      let s : is_more (piece_outcome d room p) ≡ false = stops_piece p f in
      rw (by_bytes p)
      (record {
        some = piece_some p d room s;
        within = piece_within p d room s;
        fewer = λ k h. rw (by_bytes (take k p)) (piece_fewer p d room s k h);
        enough = by_bytes (take (piece_outcome d room p).answer.second p) ∙ piece_enough p d room s ∙ sym (by_bytes p);
      })

  -- an answer that asks for more is not TargetBufTooSmall
  overfull : (p : List ℕ) → (push_outcome d room p).answer.number ≡ 3 → Drops (push_outcome d room p).next room
  overfull p e =
      let n : (piece_outcome d room p).answer.number ≡ 3 = ap (λ (o : Outcome). o.answer.number) (sym (by_bytes p)) ∙ e in
      rw (by_bytes p, (piece_rests p d room (rw n)).small n) (skipping_drops room)

  pub sentences : Sentences d room
  sentences =
      record {
        stopping = stopping;
        stopping_dest = stopping-dest;
        consumed = consumed;
        early = λ t e. early_zero d room g e t;
        overfull = overfull;
        restarts = λ s e w. pushes_through g w ∙ through_zero s d room g;
        handed = λ s. (through d room s, pushes_all s d room g);
        place = λ p f. rw (by_bytes p) (piece_rests p d room (stops_piece p f)).place;
        good = λ p. push-good d room p g;
        long = λ p m l. rw (push_dest_piece d p m (rw l g)) (length_piece p d (length m) m ∙ l);
      }

pub from-new : (room : ℕ) (piece : List ℕ) → FromNew room piece
unfolding decode_dest
from-new room piece = record { small = push-overfull room piece; fits = overfull-never room piece; memory = push-memory piece }

-- one byte has no room in nothing, and its code needs none
one-small : Overfull 0 (0x02 ∷ 0x11 ∷ 0x00 ∷ []) 2
unfolding decoded meant read read_in push_outcome bad piece_outcome byte_outcome further joined
one-small =
    let w = (from-new 0 (0x02 ∷ 0x11 ∷ 0x00 ∷ [])).small (omega arith) in
    subst (Overfull 0 (0x02 ∷ 0x11 ∷ 0x00 ∷ [])) (ap (λ (o : Outcome). o.answer.second) (sym w.2)) w.1

pub ends : Ends
unfolding bad push_outcome piece_outcome byte_outcome further joined
ends =
    let all : Sentences full longest = sentences full longest refl in
    record {
      consumed = all.consumed (0x11 ∷ 0x22 ∷ []) refl;
      early = all.early [] refl;
      overfull = all.overfull (0x11 ∷ []) refl;
      restarts = all.restarts;
      good = all.good;
      nothing = refl;
      one = one-small;
      two = refl;
      rest = refl;
    }
