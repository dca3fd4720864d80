-- Every moment of a delivery is a delivery: wherever its bytes stop, the first of its frames are whole and the front of the next has
-- come. So demand 3 holds at every moment. `proofs/Moments.antt` proves it. Assumes nothing.
use Rattle.std.specs.Prelude.{◌≡◌, List, ◌++◌, ℕ, take}
use Rattle.wire.specs.Again.{joined}
use Rattle.wire.specs.Batch.{Item}
use Rattle.wire.specs.Demand3.{Delivery, Premises}

-- The same sender and side, when these frames are whole, these bytes of the next have come, and all of it in these pieces.
abbrev pub so_far : Delivery → (frames : List (List Item)) (begun : List ℕ) (pieces : List (List ℕ)) → Delivery
so_far d frames begun pieces = record {
  batch = d.batch;
  frames = frames;
  begun = begun;
  pieces = pieces;
  buffer = d.buffer;
  table = d.table;
  handed = d.handed;
}

-- When n bytes have come, cut anywhere.
pub record Moment (d : Delivery) (n : ℕ) : Type 0 where
  pub whole : List (List Item)
  pub later : List (List Item)
  pub frames : whole ++ later ≡ d.frames
  pub begun : List ℕ
  pub premises : (pieces : List (List ℕ)) → joined pieces ≡ take n (joined d.pieces) → Premises (so_far d whole begun pieces)
