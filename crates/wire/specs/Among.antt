-- What else may come over the wire: frames of other batches among ours, such as a late repeat of the last batch, and idle zeros
-- before, between and after frames. Demand 3's own delivery is the case with neither. `proofs/Among.antt` proves it of every
-- delivery. Assumes nothing.
use Rattle.std.specs.Prelude.{◌≡◌, ◌≢◌, List, [], ◌∷◌, ◌++◌, ℕ, ◌+◌, ◌-◌, ◌%◌, leb, if◌then◌else◌}
use Rattle.cobs.specs.Answers.{Told, stale, ahead}
use Rattle.cobs.specs.Code.{encode}
use Rattle.wire.specs.Again.{Said, Run, joined}
use Rattle.wire.specs.Loop.{Side, drive}
use Rattle.wire.specs.Receive.{End, Seen, accepting}
use Rattle.wire.specs.Batch.{Batch, Sendable, Item, message, Frame, expected}
use Rattle.wire.specs.Demand3.{Delivery, Begun, started, hand, run}
use Rattle.wire.specs.Afterwards.{LeftAlone}

-- A frame of our batch, a frame of another one, or a zero that ends no frame. A frame written with a zero before and after is an
-- idle zero and a frame.
pub data Came : Type 0 where
  ours : (frame : List Item) → Came
  other : (batch : Batch) (frame : List Item) → Came
  idle : Came

-- The bytes: a frame's message encoded, and one zero.
abbrev pub bytes_of : Batch → (came : List Came) → List ℕ
bytes_of b [] = []
bytes_of b (ours frame ∷ came) = encode (message b frame) ++ 0 ∷ bytes_of b came
bytes_of b (other o frame ∷ came) = encode (message o frame) ++ 0 ∷ bytes_of b came
bytes_of b (idle ∷ came) = 0 ∷ bytes_of b came

-- Our frames among them, in order.
abbrev pub ours_in : (came : List Came) → List (List Item)
ours_in [] = []
ours_in (ours frame ∷ came) = frame ∷ ours_in came
ours_in (other o frame ∷ came) = ours_in came
ours_in (idle ∷ came) = ours_in came

-- Another batch: any that can be sent and has another number.
pub record Other (b o : Batch) : Type 0 where
  pub unlike : o.number ≢ b.number
  pub sendable : Sendable o

-- Each is a frame of the batch, a frame of another one, or a zero.
abbrev pub AllCame : Batch → (came : List Came) → Type 0
AllCame b [] = Unit {0}
AllCame b (ours frame ∷ came) = Frame b frame × AllCame b came
AllCame b (other o frame ∷ came) = Other b o × Frame o frame × AllCame b came
AllCame b (idle ∷ came) = AllCame b came

-- What comes in place of a delivery's bytes: its own frames in their order with anything among them, and the bytes that have come of
-- one more frame, ours or another's; cut anywhere.
pub record Among (d : Delivery) : Type 0 where
  pub came : List Came
  pub all : AllCame d.batch came
  pub frames : ours_in came ≡ d.frames
  pub last : Batch
  pub sendable : Sendable last
  pub begun : List ℕ
  pub begins : Begun last begun
  pub pieces : List (List ℕ)
  pub cut : joined pieces ≡ bytes_of d.batch came ++ begun

-- The same side takes them, with the same caller of the table.
abbrev pub run_among : (d : Delivery) → Among d → Run (Side End) Seen
run_among d a = drive accepting (hand d) 0 (started d) a.pieces

-- ---- What is to be answered

-- "Batch difference is theirs minus ours, modulo 65,536: 1 to 32,767 is Ahead, 32,768 to 65,535 is Stale"; the frame's first record,
-- number 0, refuses it.
abbrev pub refusal : (theirs own : ℕ) → Told
refusal theirs own = if leb ((theirs + (65_536 - own)) % 65_536) 32_767 then ahead 0 else stale 0

-- Ours by what has arrived of our batch; another is refused, and what is seen of the receiver stays; an idle zero is not answered.
abbrev pub expected_among : Batch → (before : List Item) → (came : List Came) → List (Said Seen)
expected_among b before [] = []
expected_among b before (ours frame ∷ came) = expected b (before ++ frame) ∷ expected_among b (before ++ frame) came
expected_among b before (other o frame ∷ came) =
    record { answer = refusal o.number b.number; shown = (expected b before).shown } ∷ expected_among b before came
expected_among b before (idle ∷ came) = expected_among b before came

-- The answers to our own frames.
abbrev pub to_ours : {A : Type 0} → (came : List Came) → (said : List A) → List A
to_ours [] said = []
to_ours (ours frame ∷ came) [] = []
to_ours (ours frame ∷ came) (s ∷ said) = s ∷ to_ours came said
to_ours (other o frame ∷ came) [] = []
to_ours (other o frame ∷ came) (s ∷ said) = to_ours came said
to_ours (idle ∷ came) said = to_ours came said

-- What is answered, and what is left.
pub record DeliveredAmong (d : Delivery) (a : Among d) : Type 0 where
  -- one answer for each frame, in order
  pub answers : (run_among d a).said ≡ expected_among d.batch [] a.came
  -- ours are answered as if nothing else had come
  pub ours : to_ours a.came (run_among d a).said ≡ (run d).said
  -- the receiver is left as if nothing else had come; so is a table that its caller leaves alone
  pub receiver : (run_among d a).side.state.receiver ≡ (run d).side.state.receiver
  pub table : LeftAlone d → (run_among d a).side.state.table ≡ (run d).side.state.table
