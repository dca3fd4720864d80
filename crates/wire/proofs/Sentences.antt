-- 01's sentences about a call of the wire. Assumes nothing.
use mathlib.Core.Path.{◌≡◌, refl}
use mathlib.Core.List.{List, [], ◌∷◌}
use Prim.Native.Nat.{ℕ, ◌≤◌}
use native.Mathlib.Nat.{not-suc-le-zero}
use lib.ListN.{length, take}
use Rattle.cobs.specs.Answers.{is_done}
use Rattle.dec.specs.Stream.{Outcome, bad, push_outcome, push_dest}
use Rattle.dec.proofs.Cases.{by_bool}
use Rattle.dec.proofs.Good.{new-good}
use Rattle.batch.proofs.Good as batch
use Rattle.batch.proofs.Kept.{accept-length}
use Rattle.batch.proofs.Sentences.{never-bad}
use Rattle.wire.specs.Loop.{Side, hand_on, received}
use Rattle.wire.specs.Receive.{End, accepting}
use Rattle.wire.specs.Sentences.{NotBad, NeverBad, Consumes}
use Rattle.wire.proofs.Loop.{Good, length_push, received-good, taken-within, takes, received_none, received-short}
use Rattle.wire.proofs.Accepting.{Fine, fit, keeps}

module _ (w : Side End) where
  pub good_of : NotBad w → Good accepting Fine fit keeps w
  unfolding Fine
  good_of g = record {
    decoding = g.decoder;
    taking = batch.good w.state.receiver (length w.state.table) g.receiver.words g.receiver.state;
  }

  of_good : Good accepting Fine fit keeps w → NotBad w
  unfolding Fine
  of_good g = record {
    decoder = g.decoding;
    receiver = record { state = fit w.state g.taking; words = g.taking.words };
  }

-- ---- what a call takes

module _ (w : Side End) where
  takes-some : NotBad w → (p : List ℕ) → 1 ≤ length p → 1 ≤ (received accepting w p).consumed
  takes-some g [] h = absurd (not-suc-le-zero h)
  takes-some g (b ∷ p) h = takes accepting Fine fit keeps w (good_of w g) b p

  pub consumes : Consumes w
  consumes = record {
    within = taken-within accepting w;
    some = takes-some;
    none = λ g. received_none accepting Fine fit keeps w (good_of w g);
    rest = λ g p q. received-short accepting Fine fit keeps p q w (good_of w g);
  }

  -- ---- no call leads to a BadState

  module _ (p : List ℕ) where
    receives-good : NotBad w → NotBad (received accepting w p).side
    receives-good g = of_good (received accepting w p).side (received-good accepting Fine fit keeps w (good_of w g) p)

    buffer-length : length (received accepting w p).side.buffer ≡ length w.buffer
    unfolding received
    buffer-length =
        by_bool (bad w.decoder (length w.buffer)) (λ q. rw q refl)
        (λ q. by_bool (accepting.is_bad w.state) (λ t. rw (q, t) refl) (λ t. rw (q, t) (length_push w.decoder p w.buffer)))

    hand-length : (o : Outcome) (buffer : List ℕ) → length (hand_on accepting o buffer w.state p).side.state.table ≡ length w.state.table
    hand-length o buffer =
        by_bool (is_done o.answer)
        (λ q. rw q (accept-length w.state.receiver w.state.table (take o.answer.first buffer)))
        (λ q. rw q refl)

    table-length : length (received accepting w p).side.state.table ≡ length w.state.table
    unfolding received
    table-length =
        by_bool (bad w.decoder (length w.buffer)) (λ q. rw q refl)
        (λ q.
        by_bool (accepting.is_bad w.state) (λ t. rw (q, t) refl)
        (λ t. rw (q, t) (hand-length (push_outcome w.decoder (length w.buffer) p) (push_dest w.decoder p w.buffer))))

pub wire_never-bad : NeverBad
wire_never-bad = record {
  opens = λ batch buffer table. record { decoder = new-good (length buffer); receiver = never-bad.opens batch table };
  receives = λ w p g. receives-good w p g;
  buffer = buffer-length;
  table = table-length;
}
