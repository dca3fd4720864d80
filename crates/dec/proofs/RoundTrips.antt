-- The streaming decoder gives back what an encoding call writes. Assumes nothing.
use mathlib.Core.Path.{◌≡◌, refl, sym, ap, ◌∙◌}
use mathlib.Core.Bool.{true}
use mathlib.Core.List.{List, [], ◌∷◌, ◌++◌, append-nil}
use Prim.Native.Nat.{ℕ, ◌+◌, ◌≤◌, zero-le}
use native.Mathlib.Omega.{arith}
use lib.ListN.{length, replicate, length-append}
use Rattle.cobs.specs.Code.{encode_in, encode}
use Rattle.cobs.specs.Answers.{done, more}
use Rattle.cobs.specs.OneShot.{finished}
use Rattle.cobs.proofs.OneShot.{decode_dest-encode}
use Rattle.dec.specs.Stream.{new, Outcome, stops, is_more, byte_outcome, further, piece_outcome, push_outcome}
use Rattle.dec.specs.Sentences.{Sentences}
use Rattle.dec.specs.RoundTrips.{Gives, StreamTrips, Ends}
use Rattle.dec.proofs.Cases.{by_bool}
use Rattle.dec.proofs.Good.{new-good}
use Rattle.dec.proofs.Pieces.{further-counts, piece_goes, piece_more, push_piece}
use Rattle.dec.proofs.Frames.{push-encode}
use Rattle.dec.proofs.Sources.{push-memory}
use Rattle.dec.proofs.Sentences.{sentences}

-- a zero before a frame is one more byte
zero_first : (room : ℕ) (s : List ℕ) → push_outcome new room (0 ∷ s) ≡ further 1 (push_outcome new room s)
unfolding byte_outcome
zero_first room s = push_piece new room (new-good room) (0 ∷ s) ∙ piece_goes new room 0 s new refl ∙ ap (further 1) (sym (push_piece new room (new-good room) s))

module _ (s m : List ℕ) (h : length s ≤ length m) where
  -- The encoding and its zero.
  framed : (t : List ℕ) → push_outcome new (length m) (encode s ++ 0 ∷ t) ≡ stops new (done (length s) (length (encode s) + 1))
  framed t = push-encode s t (length m) h

  -- the encoding alone does not stop it: one byte is missing to the count
  waits : is_more (push_outcome new (length m) (encode s)) ≡ true
  waits =
      let all : Sentences new (length m) = sentences new (length m) (new-good (length m)) in
      by_bool (is_more (push_outcome new (length m) (encode s))) (λ e. e)
      (λ e.
      let n = ap (λ (o : Outcome). o.answer.second) (sym (all.stopping (encode s) (0 ∷ []) e) ∙ framed []) in
      absurd (omega (arith, n, (all.consumed (encode s) e).within)))

  by_bytes : push_outcome new (length m) (encode s) ≡ piece_outcome new (length m) (encode s)
  by_bytes = push_piece new (length m) (new-good (length m)) (encode s)

  begun : Gives (encode s) m more s
  begun =
      record {
        told = ap (λ (o : Outcome). o.answer) (by_bytes ∙ piece_more (encode s) new (length m) (rw by_bytes at waits));
        memory = push-memory (encode s) m ∙ rw append-nil at (decode_dest-encode s [] refl 0 m);
      }

  closed : (t : List ℕ) → Gives (encode s ++ 0 ∷ t) m (done (length s) (length (encode s ++ 0 ∷ []))) s
  closed t =
      record {
        told = ap (λ (o : Outcome). o.answer) (framed t) ∙ ap (done (length s)) (sym (length-append (encode s) (0 ∷ [])));
        memory = push-memory (encode s ++ 0 ∷ t) m ∙ decode_dest-encode s (0 ∷ t) refl 0 m;
      }

  around : push_outcome new (length m) (0 ∷ (encode s ++ 0 ∷ [])) ≡ stops new (done (length s) (length (0 ∷ (encode s ++ 0 ∷ []))))
  around =
      zero_first (length m) (encode s ++ 0 ∷ [])
      ∙ ap (further 1) (framed [])
      ∙ further-counts 1 (stops new (done (length s) (length (encode s) + 1))) refl
      ∙ ap (λ (n : ℕ). stops new (done (length s) n)) (omega (arith, length-append (encode s) (0 ∷ [])))

  pub stream_trips : StreamTrips s m
  unfolding finished
  stream_trips =
      record {
        begun = begun;
        closed = closed;
        around =
            record {
              told = ap (λ (o : Outcome). o.answer) around;
              memory = push-memory (0 ∷ (encode s ++ 0 ∷ [])) m ∙ decode_dest-encode s (0 ∷ []) refl 1 m;
            };
        again = ap (λ (o : Outcome). o.next) around;
      }

pub ends : Ends
unfolding finished encode encode_in
ends =
    record {
      nothing = (stream_trips [] [] zero-le).closed [];
      full = (stream_trips (replicate 254 1) (replicate 254 0) (omega arith)).closed [];
      full_around = (stream_trips (replicate 254 1) (replicate 254 0) (omega arith)).around;
    }
