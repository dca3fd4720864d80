-- Both ends of the range of demand 3, and of what may come among and before its frames: the most of everything, and nothing at all.
-- `proofs/Edges.antt` proves each statement, so that no premise can be narrowed unnoticed. Assumes nothing.
use Rattle.std.specs.Prelude.{◌≡◌, List, [], ◌∷◌, ◌++◌, ℕ, zero, suc, ◌+◌, ◌%◌, pos, negsuc, length, take, drop, replicate}
use Rattle.cobs.specs.Answers.{Told, invalid_frame, bad_length, stale, ahead, still_open, complete}
use Rattle.cobs.specs.Code.{encode}
use Rattle.dec.specs.Stream.{skipping}
use Rattle.wire.specs.Again.{Said}
use Rattle.wire.specs.Loop.{drive, framed}
use Rattle.wire.specs.Receive.{Seen, accepting}
use Rattle.wire.specs.Batch.{Particle, Batch, Item, particle, close, message, messages, expected_all}
use Rattle.wire.specs.Demand3.{Delivery, Premises, hand, run}
use Rattle.wire.specs.Among.{Came, ours, other, idle, Among, refusal, DeliveredAmong}
use Rattle.wire.specs.Anew.{opened_on}
use Rattle.wire.specs.Noise.{opened_early}

-- Complete, with so much weight of so many.
abbrev pub complete_with : (total marked : ℕ) → Said Seen
complete_with total marked = record { answer = complete; shown = record { total = total; marked = marked; stands = complete } }

-- ---- The most of everything

-- A particle at the ends of its ranges: -32,768, 32,767, -32,768, and 1,000,000.
unfoldable pub heaviest : Particle
heaviest = record { x = negsuc 32_767; y = pos 32_767; z = negsuc 32_767; weight = 1_000_000 }

-- 4,096 of them in the batch of the largest number.
unfoldable pub widest : Batch
widest = record { number = 65_535; particles = replicate 4_096 heaviest }

-- n particles, numbered from k on.
abbrev pub numbered_from : (n k : ℕ) → List Item
numbered_from zero k = []
numbered_from (suc n) k = particle k ∷ numbered_from n (suc k)

-- n frames of 15 particles each, numbered from k on.
unfoldable pub fifteens : (n k : ℕ) → List (List Item)
fifteens zero k = []
fifteens (suc n) k = numbered_from 15 k ∷ fifteens n (k + 15)

-- 273 of them are 4,095 particles; the last particle shares its frame with the close.
unfoldable pub last_frame : List Item
last_frame = particle 4_095 ∷ close ∷ []

-- Then the first frame begins once more: 100 bytes of it have come.
unfoldable pub beginning : List ℕ
beginning = take 100 (encode (message widest (numbered_from 15 0)))

-- All the bytes.
unfoldable pub stream : List ℕ
stream = framed (messages widest (fifteens 273 0 ++ last_frame ∷ [])) ++ beginning

-- Cut inside a frame; 240 bytes to decode into; a slot for each particle and no more; a caller who fills the table anew before
-- each call.
unfoldable pub most : Delivery
most = record {
  batch = widest;
  frames = fifteens 273 0 ++ last_frame ∷ [];
  begun = beginning;
  pieces = take 1_000 stream ∷ drop 1_000 stream ∷ [];
  buffer = replicate 240 0;
  table = replicate 65_536 0;
  handed = λ k t. replicate (length t) (k % 256);
}

-- The premises are met; and after 273 answers that are due comes Complete, with each particle weighed once.
pub record MostMet : Type 0 where
  pub premises : Premises most
  pub answers : (run most).said ≡ expected_all widest [] (fifteens 273 0) ++ complete_with 4_096_000_000 4_096 ∷ []

-- ---- The most of everything, and others among it

-- The batch before it, as large: its last frame comes late, again and again.
unfoldable pub before : Batch
before = record { number = 65_534; particles = replicate 4_096 heaviest }

-- A batch without particles. Its number, 0, is the one after 65,535.
abbrev pub nobody : Batch
nobody = record { number = 0; particles = [] }

-- With each of our frames one of the batch before and one of the batch after; ours and those before it with zeros around them.
unfoldable pub crowded : (frames : List (List Item)) → List Came
crowded [] = idle ∷ []
crowded (frame ∷ frames) = idle ∷ other before (numbered_from 15 4_081) ∷ idle ∷ ours frame ∷ idle ∷ other nobody (close ∷ []) ∷ crowded frames

-- At the end 100 bytes have come of one more frame of the batch before.
unfoldable pub late_beginning : List ℕ
late_beginning = take 100 (encode (message before (numbered_from 15 4_081)))

-- It can come so; then our frames are answered as before, and of the others one is Stale, one Ahead.
pub record MostAmong : Type 0 where
  pub among : Among most
  pub crowd : among.came ≡ crowded most.frames
  pub begun : among.begun ≡ late_beginning
  pub delivered : DeliveredAmong most among
  pub late : refusal 65_534 65_535 ≡ stale 0
  pub early : refusal 0 65_535 ≡ ahead 0

-- ---- Nothing at all

-- The close of the batch without particles, in a frame.
abbrev pub closing : List ℕ
closing = framed (messages nobody ((close ∷ []) ∷ []))

-- That frame in one piece, and no table.
abbrev pub least_into : (buffer : List ℕ) → Delivery
least_into buffer =
    record { batch = nobody; frames = (close ∷ []) ∷ []; begun = []; pieces = closing ∷ []; buffer = buffer; table = []; handed = λ k t. t }

-- Into 240 bytes.
abbrev pub least : Delivery
least = least_into (replicate 240 0)

-- The premises are met; and the close alone is answered Complete.
pub record EmptyComplete : Type 0 where
  pub premises : Premises least
  pub answers : (run least).said ≡ complete_with 0 0 ∷ []

-- Opened once more on what it left, the same comes again: Complete.
pub record CompleteAgain : Type 0 where
  pub premises : Premises (least_into (run least).side.buffer)
  pub answers : (drive accepting (hand least) 0 (opened_on (run least).side least) (closing ∷ [])).said ≡ complete_with 0 0 ∷ []

-- Noise: two bytes more of a frame that had no room, a frame of one byte, a short group and an idle zero.
abbrev pub noise : List ℕ
noise = 5 ∷ 17 ∷ 0 ∷ 2 ∷ 17 ∷ 0 ∷ 3 ∷ 17 ∷ 0 ∷ 0 ∷ []

-- A refusal, while nothing has arrived.
abbrev pub refused_with : Told → Said Seen
refused_with t = record { answer = t; shown = record { total = 0; marked = 0; stands = still_open } }

-- From a decoder that skips, in one piece with the frame: refused twice, then Complete.
abbrev pub CompleteAfterNoise : Type 0
CompleteAfterNoise =
    (drive accepting (hand least) 0 (opened_early least skipping) ((noise ++ closing) ∷ [])).said
    ≡ refused_with bad_length ∷ refused_with (invalid_frame 1 0) ∷ complete_with 0 0 ∷ []
