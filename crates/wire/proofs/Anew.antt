-- A receiver opened anew: after a delivery of whole frames, and after any bytes that end in a zero. Assumes nothing.
use mathlib.Core.Path.{◌≡◌, ap, ◌∙◌}
use mathlib.Core.List.{List, [], ◌∷◌, ◌++◌}
use Prim.Native.Nat.{ℕ}
use lib.ListN.{length}
use Rattle.dec.specs.Stream.{new, push_outcome}
use Rattle.wire.specs.Loop.{Side, drive}
use Rattle.wire.specs.Receive.{End, accepting}
use Rattle.wire.specs.Demand3.{Delivery, Premises, started, hand}
use Rattle.wire.specs.Among.{Among}
use Rattle.wire.specs.Anew.{opened_on, Anew, AfterDelivery, Noise, left_by, AfterNoise}
use Rattle.wire.proofs.Table.{alone, unseen}
use Rattle.wire.proofs.Loop.{Good, by_bytes, drive-bytes}
use Rattle.wire.proofs.Restart.{bytes-through, bytes_zero}
use Rattle.wire.proofs.Frames.{push-none}
use Rattle.wire.proofs.Accepting.{Fine, fit, keeps}
use Rattle.wire.proofs.Sentences.{good_of}
use Rattle.wire.proofs.Among.{heard-alike, left, said}

-- where the decoder is new, a delivery starts
anew : (w : Side End) (room : ℕ) → w.decoder ≡ new → length w.buffer ≡ room → Anew w room
anew w room e l = record { decoder = e; buffer = l; answers = λ d p b. ap (λ (v : Side End). (drive accepting (hand d) 0 v d.pieces).said) (starts d b) ∙ said d p }
  where
    starts : (d : Delivery) → d.buffer ≡ w.buffer → opened_on w d ≡ started d
    starts d b = rw (b, e)

pub after-delivery : (d : Delivery) → Premises d → (a : Among d) → AfterDelivery d a
after-delivery d p a e =
    anew _ (length d.buffer)
    ((heard-alike d p a).sides.decoders ∙ (left d p a).decoder ∙ ap (λ (s : List ℕ). (push_outcome new (length d.buffer) s).next) e ∙ rw (push-none (length d.buffer)))
    (ap length (heard-alike d p a).sides.buffers ∙ (left d p a).long)

module _ (n : Noise) where
  good : Good accepting Fine fit keeps n.side
  good = good_of n.side n.fit

  bytes : (drive accepting alone 0 n.side n.pieces).side ≡ (by_bytes accepting Fine fit keeps n.side (n.bytes ++ 0 ∷ [])).side
  bytes =
      (drive-bytes accepting Fine fit keeps n.pieces 0 n.side good).side
      ∙ ap (λ (s : List ℕ). (by_bytes accepting Fine fit keeps n.side s).side) n.cut

  pub after_noise : AfterNoise n
  after_noise =
      let u = unseen n.handed n.same n.side n.pieces in
      anew (left_by n) (length n.side.buffer)
      (u.sides.decoders ∙ ap (λ (w : Side End). w.decoder) bytes ∙ bytes_zero accepting Fine fit keeps n.bytes n.side good)
      (ap length u.sides.buffers ∙ ap (λ (w : Side End). length w.buffer) bytes ∙ (bytes-through accepting Fine fit keeps (n.bytes ++ 0 ∷ []) n.side good).long)
