-- The sender and the wire of demand 3, from the definitions that users call: what `write_frame` writes for each frame of a
-- batch; and that loss, repeat and reorder only choose among the frames that were sent. Assumes nothing.
use mathlib.Core.Path.{◌≡◌, refl}
use mathlib.Core.List.{List, [], ◌∷◌, ◌++◌}
use Prim.Native.Nat.{ℕ, zero, suc, ◌+◌, ◌*◌, ◌/◌, ◌≤◌, ◌<◌}
use native.Mathlib.Omega.{arith}
use lib.ListN.{length, get_or}
use lib.Seq.{drop_at}
use Rattle.cobs.specs.Answers.{done}
use Rattle.cobs.specs.Code.{encode, over}
use Rattle.cobs.proofs.Encoding.{encode-length, overhead-max}
use Rattle.record.specs.Record.{written_bytes}
use Rattle.record.specs.Frame as writer
use Rattle.record.specs.Frame.{records_told, message_told, frame_told, frame_dest}
use Rattle.record.proofs.Framing.{writes_fits}
use Rattle.record.proofs.Round.{read_is}
use Rattle.wire.specs.Loop.{framed}
use Rattle.wire.specs.Batch.{Batch, Sendable, Item, record_of, message, AllOf, Frame, Frames}
use Rattle.wire.proofs.Arrived.{reads, record-long}
use Rattle.wire.proofs.Receiving.{message-long, good_length}

-- ---- what the sender writes

module _ (b : Batch) (can : Sendable b) where
  all-good : (f : List Item) → AllOf b f → (k : ℕ) → records_told 16 (length f) k (message b f) ≡ done 0 0
  unfolding records_told message
  all-good [] h k = refl
  all-good (item ∷ f) h k =
      let bytes : List ℕ = written_bytes 0 (record_of b item) in
      rw (read_is (bytes ++ message b f) (record_of b item) (reads b can item h.0 (message b f)), drop_at bytes (message b f) 16 (record-long b can item h.0))
      (all-good f h.1 (suc k))

  message-good : (f : List Item) → Frame b f → message_told 16 240 (message b f) ≡ done 0 0
  unfolding message_told
  message-good f g =
      let c : length f * 16 / 16 ≡ length f = omega arith in
      rw (message-long b can f g.ours, good_length (length f) g.some g.most, c)
      (all-good f g.ours 0)

  -- with 242 bytes of room: the frame's bytes on the wire, and no others
  pub sends : (f : List Item) → Frame b f → (d : List ℕ) → 242 ≤ length d
      → (done (length (encode (message b f)) + 1) 0 ≡ frame_told (message b f) (length d)) × (over (framed (message b f ∷ [])) d ≡ frame_dest (message b f) d)
  unfolding writer.framed
  sends f g d h =
      writes_fits (message b f) d (message-good f g)
      (omega (arith, encode-length (message b f), overhead-max (length (message b f)), message-long b can f g.ours, g.most))

-- ---- what the wire does with what was sent

-- the frames that arrive, by the places at which they were sent: a place left out is lost, one named twice is repeated
abbrev pub arrivals : (sent : List (List Item)) (places : List ℕ) → List (List Item)
arrivals sent [] = []
arrivals sent (p ∷ places) = get_or sent p [] ∷ arrivals sent places

abbrev pub Places : (n : ℕ) → List ℕ → Type 0
Places n [] = Unit {0}
Places n (p ∷ places) = (p < n) × Places n places

pub frame_at : (b : Batch) (sent : List (List Item)) → Frames b sent → (p : ℕ) → p < length sent → Frame b (get_or sent p [])
frame_at b [] h p k = absurd (omega arith)
frame_at b (f ∷ sent) h zero k = h.0
frame_at b (f ∷ sent) h (suc p) k = frame_at b sent h.1 p (omega arith)

-- lost, repeated and reordered frames are frames of the batch
pub arrivals-framed : (b : Batch) (sent : List (List Item)) → Frames b sent → (places : List ℕ) → Places (length sent) places → Frames b (arrivals sent places)
arrivals-framed b sent h [] k = tt
arrivals-framed b sent h (p ∷ places) k = (frame_at b sent h p k.0, arrivals-framed b sent h places k.1)
