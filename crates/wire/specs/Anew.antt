-- The next batch, or the first one after noise: a receiver opened on the decoder and the buffer as calls before left them. A delivery
-- starts there, and demand 3 holds of it. `proofs/Anew.antt` proves it. Assumes nothing.
use Rattle.std.specs.Prelude.{◌≡◌, List, [], ◌∷◌, ◌++◌, ℕ, length}
use Rattle.dec.specs.Stream.{new}
use Rattle.batch.specs.State.{opened}
use Rattle.wire.specs.Again.{joined}
use Rattle.wire.specs.Loop.{Side, drive}
use Rattle.wire.specs.Receive.{End, accepting}
use Rattle.wire.specs.Call.{calls}
use Rattle.wire.specs.Sentences.{NotBad}
use Rattle.wire.specs.Batch.{expected_all}
use Rattle.wire.specs.Demand3.{Delivery, Premises, hand}
use Rattle.wire.specs.Among.{Among, run_among}

-- A receiver opened on the delivery's batch and with its table, beside the decoder and the buffer that were left.
abbrev pub opened_on : (left : Side End) → Delivery → Side End
opened_on left d =
    calls (record { decoder = left.decoder; receiver = opened d.batch.number (length d.table) }) left.buffer d.table

-- The decoder that was left is new and its buffer has so many bytes; so demand 3 holds of every delivery that decodes into them.
pub record Anew (left : Side End) (room : ℕ) : Type 0 where
  pub decoder : left.decoder ≡ new
  pub buffer : length left.buffer ≡ room
  pub answers : (d : Delivery) → Premises d → d.buffer ≡ left.buffer
      → (drive accepting (hand d) 0 (opened_on left d) d.pieces).said ≡ expected_all d.batch [] d.frames

-- After a delivery of whole frames, whatever came among them: the decoder is new, its buffer as long as it was.
abbrev pub AfterDelivery : (d : Delivery) → Among d → Type 0
AfterDelivery d a = a.begun ≡ [] → Anew (run_among d a).side (length d.buffer)

-- "After any bytes that end in zero": from any states that are not bad, cut anywhere, and whatever the caller writes to the table.
pub record Noise : Type 0 where
  pub side : Side End
  pub fit : NotBad side
  pub bytes : List ℕ
  pub pieces : List (List ℕ)
  pub cut : joined pieces ≡ bytes ++ 0 ∷ []
  pub handed : (k : ℕ) → List ℕ → List ℕ
  pub same : (k : ℕ) (t : List ℕ) → length (handed k t) ≡ length t

-- What is left of it.
abbrev pub left_by : Noise → Side End
left_by n = (drive accepting (λ k e. record { receiver = e.receiver; table = n.handed k e.table }) 0 n.side n.pieces).side

-- "the next frame is answered as by a new decoder": so is the delivery that starts with it.
abbrev pub AfterNoise : Noise → Type 0
AfterNoise n = Anew (left_by n) (length n.side.buffer)
