-- Noise before a delivery, with a receiver that is open already. Assumes nothing.
use mathlib.Core.Path.{◌≡◌, sym, ap, ap₂, ◌∙◌, subst}
use mathlib.Core.List.{List, [], ◌∷◌, ◌++◌, append-nil}
use Prim.Native.Nat.{ℕ}
use Rattle.dec.specs.declared.stream.CobsDecoder.{CobsDecoder}
use Rattle.wire.specs.Again.{Said, Run, joined}
use Rattle.wire.specs.Loop.{Side, drive}
use Rattle.wire.specs.Receive.{End, Seen, accepting}
use Rattle.wire.specs.Demand3.{Delivery, Premises, started, hand}
use Rattle.wire.specs.Among.{bytes_of, Among}
use Rattle.wire.specs.Noise.{AllRefused, opened_early, noise_run, Noisy, Unmoved}
use Rattle.wire.proofs.Loop.{Good, by_bytes, bytes-append, drive-bytes}
use Rattle.wire.proofs.Restart.{bytes-through, bytes_zero, bytes-kept}
use Rattle.wire.proofs.Frames.{waiting}
use Rattle.wire.proofs.Accepting.{Fine, fit, keeps, answers, kept}
use Rattle.wire.proofs.Table.{unseen}
use Rattle.wire.proofs.Among.{open-fine, tables, from-new}

module _ (d : Delivery) (p : Premises d) (a : Among d) (n : Noisy d a) where
  abbrev over : Side End → List ℕ → Run (Side End) Seen
  over = by_bytes accepting Fine fit keeps

  abbrev side : Side End
  side = opened_early d n.decoder

  abbrev noise : List ℕ
  noise = n.bytes ++ 0 ∷ []

  abbrev coming : List ℕ
  coming = bytes_of d.batch a.came ++ a.begun

  good : Good accepting Fine fit keeps side
  good = record { decoding = n.fit; taking = open-fine d p }

  -- what a caller who leaves the table alone hears
  by_bytes-cut : (pieces : List (List ℕ)) → (drive accepting (hand d) 0 side pieces).said ≡ (over side (joined pieces)).said
  by_bytes-cut pieces = (unseen d.handed (tables d p) side pieces).said ∙ (drive-bytes accepting Fine fit keeps pieces 0 side good).said

  noise-said : (noise_run d n.decoder noise).said ≡ (over side noise).said
  noise-said = by_bytes-cut (noise ∷ []) ∙ ap (λ (s : List ℕ). (over side s).said) (append-nil noise)

  still : (over side noise).side.state ≡ (started d).state
  still = bytes-kept accepting Fine fit keeps answers kept noise side good (subst AllRefused noise-said n.refused)

  abbrev left : List ℕ
  left = (over side noise).side.buffer

  -- the side waits for a frame, with the receiver as it was opened
  waits : (over side noise).side ≡ waiting accepting Fine fit keeps answers left (started d).state
  waits =
      ap₂ (λ (x : CobsDecoder) (e : End). record { decoder = x; buffer = left; state = e }) (bytes_zero accepting Fine fit keeps n.bytes side good) still

  pub unmoved : Unmoved d a n
  unmoved = record {
    receiver =
        (unseen d.handed (tables d p) side (noise ∷ [])).sides.states.receivers
        ∙ ap (λ (w : Side End). w.state.receiver) ((drive-bytes accepting Fine fit keeps (noise ∷ []) 0 side good).side ∙ ap (λ (s : List ℕ). (over side s).side) (append-nil noise))
        ∙ ap (λ (e : End). e.receiver) still;
    answers =
        by_bytes-cut n.pieces ∙ ap (λ (s : List ℕ). (over side s).said) n.cut ∙ (bytes-append accepting Fine fit keeps noise coming side).said
        ∙ ap₂ (λ (x y : List (Said Seen)). x ++ y) (sym noise-said)
        (ap (λ (w : Side End). (over w coming).said) waits
        ∙ (from-new d p a left (bytes-through accepting Fine fit keeps noise side good).long).says);
  }
