-- Demand 3's sender: a batch, the frames that hold nothing else, and what the receiver is to answer to those that arrived.
-- Assumes nothing.
use Rattle.std.specs.Prelude.{Bool, true, false, ◌||◌, List, [], ◌∷◌, ◌++◌, ℕ, zero, suc, ◌+◌, ◌-◌, ◌≤◌, ◌<◌, eqb, ℤ, pos, length, get_or, if◌then◌else◌}
use Rattle.std.specs.Int.Signed.{mag}
use Rattle.cobs.specs.Words.{◌exceeds◌}
use Rattle.cobs.specs.Answers.{Told, still_open, missing, complete}
use Rattle.marks.specs.Marks.{count_below}
use Rattle.record.specs.Record.{written_bytes}
use Rattle.record.specs.declared.Record.{Record}
use Rattle.record.specs.declared.Record.TheVariants as kind
use Rattle.wire.specs.Again.{Said}
use Rattle.wire.specs.Receive.{Seen}

-- ---- "a batch of N particle records"

-- What a particle record holds beside its batch and its number.
pub record Particle : Type 0 where
  pub x : ℤ
  pub y : ℤ
  pub z : ℤ
  pub weight : ℕ

-- "numbered 0 to N-1": particle i stands at place i.
pub record Batch : Type 0 where
  pub number : ℕ
  pub particles : List Particle

-- "N".
abbrev pub count : Batch → ℕ
count b = length b.particles

-- Particle i, for i below N.
abbrev pub particle_at : Batch → (i : ℕ) → Particle
particle_at b i = get_or b.particles i (record { x = pos 0; y = pos 0; z = pos 0; weight = 0 })

-- Its weight.
abbrev pub weight_at : Batch → (i : ℕ) → ℕ
weight_at b i = (particle_at b i).weight

-- The sum of f over the numbers below n.
unfoldable pub sum_below : (f : ℕ → ℕ) (n : ℕ) → ℕ
sum_below f zero = 0
sum_below f (suc n) = sum_below f n + f n

-- "the total weight": of all N.
abbrev pub total : Batch → ℕ
total b = sum_below (weight_at b) (count b)

-- Fields that a particle record can hold: x, y, z from -32,768 to 32,767, weight 0 to 1,000,000. (`mag` of -1 - n is n.)
pub record InRange (p : Particle) : Type 0 where
  pub x16 : mag p.x < 32_768
  pub y16 : mag p.y < 32_768
  pub z16 : mag p.z < 32_768
  pub light : p.weight ≤ 1_000_000

-- A batch that can be sent.
pub record Sendable (b : Batch) : Type 0 where
  -- a "batch number" is a u16
  pub numbered : b.number < 65_536
  -- "N particle records (at most 4,096)"
  pub few : count b ≤ 4_096
  -- each one a particle record of document 01
  pub ranges : (i : ℕ) → i < count b → InRange (particle_at b i)

-- ---- "in frames that hold nothing else"

-- A record of the batch: the particle of an index, or the close.
pub data Item : Type 0 where
  particle : (i : ℕ) → Item
  close : Item

-- A particle's record has its own number; "a close record with N and the total weight".
abbrev pub record_of : Batch → Item → Record
record_of b (particle i) =
    kind.Particle b.number i (particle_at b i).x (particle_at b i).y (particle_at b i).z (weight_at b i)
record_of b close = kind.Close b.number (count b) (total b)

-- The bytes of a frame's records, as the record writer writes them.
unfoldable pub message : Batch → (frame : List Item) → List ℕ
message b [] = []
message b (item ∷ frame) = written_bytes 0 (record_of b item) ++ message b frame

-- Frame after frame.
abbrev pub messages : Batch → (frames : List (List Item)) → List (List ℕ)
messages b [] = []
messages b (frame ∷ frames) = message b frame ∷ messages b frames

-- Numbered 0 to N-1, or the close.
abbrev pub IsOf : Batch → Item → Type 0
IsOf b (particle i) = i < count b
IsOf b close = Unit {0}

-- "nothing else": every record of the frame is one of these.
abbrev pub AllOf : Batch → List Item → Type 0
AllOf b [] = Unit {0}
AllOf b (item ∷ frame) = IsOf b item × AllOf b frame

-- A frame carries 1 to 15 records, and here they are all of the batch. A record may stand in it twice.
pub record Frame (b : Batch) (frame : List Item) : Type 0 where
  pub some : 1 ≤ length frame
  pub most : length frame ≤ 15
  pub ours : AllOf b frame

-- Every frame is such a frame.
abbrev pub Frames : Batch → List (List Item) → Type 0
Frames b [] = Unit {0}
Frames b (frame ∷ frames) = Frame b frame × Frames b frames

-- ---- What has arrived, and what is to be answered

-- Particle i is among the items that have arrived.
abbrev pub has : (i : ℕ) (arrived : List Item) → Bool
has i [] = false
has i (particle j ∷ arrived) = eqb i j || has i arrived
has i (close ∷ arrived) = has i arrived

-- "the close .. arrived".
abbrev pub has_close : (arrived : List Item) → Bool
has_close [] = false
has_close (particle j ∷ arrived) = has_close arrived
has_close (close ∷ arrived) = true

-- How many "distinct particles .. have arrived": each number below N counts once, however often it came.
abbrev pub arrived_count : Batch → List Item → ℕ
arrived_count b arrived = count_below (λ i. has i arrived) (count b)

-- "the sum of the weights of the distinct particles that have arrived".
abbrev pub arrived_total : Batch → List Item → ℕ
arrived_total b arrived = sum_below (λ i. if has i arrived then weight_at b i else 0) (count b)

-- "until then it answers Open before the close and the exact number missing after it"; Complete if none is missing then.
abbrev pub due : Batch → (arrived : List Item) → Told
due b arrived =
    if has_close arrived then (if count b exceeds arrived_count b arrived then missing (count b - arrived_count b arrived) else complete)
    else still_open

-- The answer, and what is seen of the receiver then.
abbrev pub expected : Batch → (arrived : List Item) → Said Seen
expected b arrived = record {
  answer = due b arrived;
  shown = record { total = arrived_total b arrived; marked = arrived_count b arrived; stands = due b arrived };
}

-- "After each whole frame", by all that have arrived up to it.
abbrev pub expected_all : Batch → (before : List Item) → (frames : List (List Item)) → List (Said Seen)
expected_all b before [] = []
expected_all b before (frame ∷ frames) = expected b (before ++ frame) ∷ expected_all b (before ++ frame) frames
