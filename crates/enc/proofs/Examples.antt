-- 01's sentences at both ends of their range, so that none can be narrowed unnoticed. Assumes nothing.
use mathlib.Core.Path.{◌≡◌, refl, ◌∙◌}
use mathlib.Core.Bool.{true, false}
use mathlib.Core.List.{List, [], ◌∷◌, ◌++◌}
use Prim.Native.Nat.{ℕ, ◌-◌, ◌≤◌, ◌<◌}
use native.Mathlib.Omega.{arith}
use lib.ListN.{length, replicate, length-append}
use borrow.Author.Tests.{ne_eqb, le-ltb}
use Rattle.cobs.specs.Code.{encode, encode_in}
use Rattle.cobs.specs.Answers.{done, dest_buf_too_small, too_long}
use Rattle.cobs.proofs.Encoding.{encode-length}
use Rattle.enc.specs.State.{opened, last_place, step, state_bad, state_push}
use Rattle.enc.specs.Stream.{fresh, moved, wrote, move_all, write_all, is_bad, started, push_told, push_next, push_dest, finish_told, finish_dest}
use Rattle.enc.specs.Sentences.{Call, push, finalize, Work, answer, called, calls, begun, fit_told, Streaming}
use Rattle.enc.proofs.Sentences.{sentences}

-- from a fresh encoder, on a buffer that `start` takes
at_work : (d : List ℕ) → 0 < length d → (cs : List Call) → Streaming d (calls (begun fresh d) cs)
unfolding started
at_work d h = sentences.streaming d fresh (rw (ne_eqb (length d) 0 (omega arith)))

-- ---- one byte of room: nothing but the empty piece is accepted, and what is finished is 01

abbrev one_byte : Work
one_byte = calls (begun fresh (7 ∷ [])) (finalize ∷ push [] ∷ push (0x11 ∷ []) ∷ [])

least : Streaming (7 ∷ []) one_byte
least = at_work (7 ∷ []) (omega arith) (finalize ∷ push [] ∷ push (0x11 ∷ []) ∷ [])

pub least-answers : (answer one_byte [] ≡ done 0 0) × (answer one_byte (0x11 ∷ []) ≡ dest_buf_too_small)
unfolding calls fit_told encode encode_in push_told push_next push_dest finish_told finish_dest is_bad move_all write_all moved step
least-answers = (least.accepts [], least.accepts (0x11 ∷ []))

pub least-bytes : finish_dest one_byte.encoder one_byte.buffer ≡ 1 ∷ []
unfolding calls encode encode_in push_told push_next push_dest finish_told finish_dest is_bad move_all write_all moved step
least-bytes = least.bytes

-- ---- a finalize among the pieces, and a refused one: the bytes are those of 11 22 00 33

abbrev four_bytes : Work
four_bytes = calls (begun fresh (replicate 6 9)) (push (0x11 ∷ 0x22 ∷ []) ∷ finalize ∷ push (replicate 5 1) ∷ push (0 ∷ 0x33 ∷ []) ∷ [])

pub between_bytes : finish_dest four_bytes.encoder four_bytes.buffer ≡ 3 ∷ 0x11 ∷ 0x22 ∷ 2 ∷ 0x33 ∷ 9 ∷ []
unfolding calls encode encode_in push_told push_next push_dest finish_told finish_dest is_bad move_all write_all moved wrote step
between_bytes = (at_work (replicate 6 9) (omega arith) (push (0x11 ∷ 0x22 ∷ []) ∷ finalize ∷ push (replicate 5 1) ∷ push (0 ∷ 0x33 ∷ []) ∷ [])).bytes

-- ---- 1,048,576 bytes in room for the most they can need: accepted whole, and then no byte more

module _ (m d : List ℕ) (many : length m ≡ 1_048_576) (room : 1_052_705 ≤ length d) where
  pub most-accepted : answer (begun fresh d) m ≡ done 0 0
  unfolding calls fit_told
  most-accepted =
      let l : length (encode m) ≤ 1_052_705 = rw many at (encode-length m) in
      (at_work d (omega arith) []).accepts m ∙ rw (many, le-ltb (length d) (length (encode m)) (omega arith))

  pub most-refused : (b : ℕ) → answer (calls (begun fresh d) (push m ∷ [])) (b ∷ []) ≡ too_long
  unfolding calls fit_told
  most-refused b =
      let l : length (m ++ b ∷ []) ≡ 1_048_577 = length-append m (b ∷ []) ∙ omega arith in
      (at_work d (omega arith) (push m ∷ [])).accepts (b ∷ []) ∙ rw (most-accepted, l)

-- ---- a good state that no call reaches stays good: all bytes counted, and the first group still open

abbrev unreached : Work
unreached = record { encoder = record { state = opened 0 254; full = false; count = 1_048_576 }; buffer = replicate 254 0; accepted = [] }

pub unreached_stays : (c : Call) → is_bad (called unreached c).encoder 254 ≡ false
unfolding is_bad
unreached_stays c = (sentences.leaves unreached c).good refl

-- ---- the state alone: the first place from which a zero or a full group leads to a BadState, and the last from which it does not

pub alone_zero : (state_bad (state_push (opened last_place 1) 0).next ≡ true) × (state_bad (state_push (opened (last_place - 1) 1) 0).next ≡ false)
unfolding state_bad state_push step
alone_zero = ((sentences.alone (opened last_place 1) 0 refl).all (omega arith), refl)

pub alone-full : (state_bad (state_push (opened (last_place - 254) 254) 1).next ≡ true) × (state_bad (state_push (opened (last_place - 255) 254) 1).next ≡ false)
unfolding state_bad state_push step
alone-full = ((sentences.alone (opened (last_place - 254) 254) 1 refl).all (omega arith), refl)
