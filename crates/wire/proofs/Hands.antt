-- What a caller does to the taker's state between calls, where the taker does not see it, changes no answer.
-- Assumes nothing.
use mathlib.Core.Path.{◌≡◌, refl}
use mathlib.Core.Bool.{◌||◌}
use mathlib.Core.List.{List, [], ◌∷◌}
use Prim.Native.Nat.{ℕ}
use lib.ListN.{length, take}
use Rattle.cobs.specs.Answers.{is_done}
use Rattle.dec.specs.Stream.{Outcome, bad, push_outcome, push_dest}
use Rattle.dec.specs.declared.stream.CobsDecoder.{CobsDecoder}
use Rattle.dec.proofs.Cases.{by_bool}
use Rattle.wire.specs.Loop.{Side, Taker, hand_on, received, called, seen, drive}
use Rattle.wire.proofs.Again as again
use Rattle.wire.proofs.Again.{Same, AlikeTo, Each}

-- Two takers' states that answer alike, whatever each caller does to its own before a call.
module _ {S View : Type 0} (taker : Taker S View) (like : S → S → Type 0)
    (bads : (s t : S) → like s t → taker.is_bad s ≡ taker.is_bad t)
    (says : (s t : S) → like s t → (f : List ℕ) → taker.says s f ≡ taker.says t f)
    (goes : (s t : S) → like s t → (f : List ℕ) → like (taker.after s f) (taker.after t f))
    (shows : (s t : S) → like s t → taker.shows s ≡ taker.shows t)
    (hand hand' : ℕ → S → S) (hands : (k : ℕ) (s t : S) → like s t → like (hand k s) (hand' k t)) where
  pub record Likewise (w v : Side S) : Type 0 where
    pub decoders : w.decoder ≡ v.decoder
    pub buffers : w.buffer ≡ v.buffer
    pub states : like w.state v.state

  -- one call
  abbrev side : CobsDecoder → List ℕ → S → Side S
  side d buffer s = record { decoder = d; buffer = buffer; state = s }

  hand-same : (o : Outcome) (buffer : List ℕ) (s t : S) → like s t → (p : List ℕ) → Same Likewise (hand_on taker o buffer s p) (hand_on taker o buffer t p)
  hand-same o buffer s t l p =
      by_bool (is_done o.answer)
      (λ e.
      rw e
      (record {
        answers = says s t l (take o.answer.first buffer);
        takings = refl;
        sides = record { decoders = refl; buffers = refl; states = goes s t l (take o.answer.first buffer) };
      }))
      (λ e. rw e (record { answers = refl; takings = refl; sides = record { decoders = refl; buffers = refl; states = l } }))

  received-same : (d : CobsDecoder) (buffer : List ℕ) (s t : S) → like s t → (p : List ℕ)
      → Same Likewise (received taker (side d buffer s) p) (received taker (side d buffer t) p)
  unfolding received
  received-same d buffer s t l p =
      rw (bads s t l)
      (by_bool (bad d (length buffer) || taker.is_bad t)
      (λ e. rw e (record { answers = refl; takings = refl; sides = record { decoders = refl; buffers = refl; states = l } }))
      (λ e. rw e (hand-same (push_outcome d (length buffer) p) (push_dest d p buffer) s t l p)))

  called_same : (k : ℕ) (w v : Side S) → Likewise w v → (p : List ℕ) → Same Likewise (called taker hand k w p) (called taker hand' k v p)
  called_same k w v l p =
      rw (← l.decoders, ← l.buffers) (received-same w.decoder w.buffer (hand k w.state) (hand' k v.state) (hands k w.state v.state l.states) p)

  -- calls again and again
  any_piece : (ps : List (List ℕ)) → Each (λ p. Unit {0}) ps
  any_piece [] = tt
  any_piece (p ∷ ps) = (tt, any_piece ps)

  pub drive-same : (ps : List (List ℕ)) (k : ℕ) (w v : Side S) → Likewise w v → AlikeTo Likewise (drive taker hand k w ps) (drive taker hand' k v ps)
  drive-same ps k w v l =
      again.drive-same Likewise (λ p. Unit {0}) (λ p n h. tt) (called taker hand) (called taker hand') (λ k w v l p h. called_same k w v l p) (seen taker hand)
      (seen taker hand') (λ w v l. shows w.state v.state l.states) ps (any_piece ps) k w v l
