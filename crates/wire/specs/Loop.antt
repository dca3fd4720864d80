-- The receiving loop, whatever takes the frames: a call decodes a piece up to the end of its first frame and hands that
-- frame on first; the loop is nothing but that call again and again. Assumes nothing.
use Rattle.std.specs.Prelude.{Bool, ◌||◌, List, [], ◌∷◌, ◌++◌, ℕ, length, take, if◌then◌else◌}
use Rattle.cobs.specs.Answers.{Told, tell, bad_state, is_done}
use Rattle.cobs.specs.Code.{encode}
use Rattle.dec.specs.Stream.{Outcome, is_more, bad, push_outcome, push_dest}
use Rattle.dec.specs.declared.stream.CobsDecoder.{CobsDecoder}
use Rattle.wire.specs.Again as again
use Rattle.wire.specs.Again.{Received, Run}

-- What a call gets and leaves: the decoder, the bytes it decodes into, and the state of what takes the frames.
pub record Side (S : Type 0) : Type 0 where
  pub decoder : CobsDecoder
  pub buffer : List ℕ
  pub state : S

-- What takes the frames: when its state is BadState, the state after a frame, what it answers to it, and what is seen of
-- its state.
pub record Taker (S View : Type 0) : Type 0 where
  pub is_bad : S → Bool
  pub after : S → (frame : List ℕ) → S
  pub says : S → (frame : List ℕ) → Told
  pub shows : S → View

module _ {S View : Type 0} (taker : Taker S View) where
  -- The push has answered o and left the buffer. A frame goes to the taker; any other answer is the decoder's own.
  abbrev pub hand_on : Outcome → (buffer : List ℕ) (s : S) (piece : List ℕ) → Received (Side S)
  hand_on o buffer s piece = record {
    side = record {
      decoder = o.next;
      buffer = buffer;
      state = if is_done o.answer then taker.after s (take o.answer.first buffer) else s;
    };
    answer = if is_done o.answer then taker.says s (take o.answer.first buffer) else tell o.answer.number o.answer.first 0;
    consumed = if is_more o then length piece else o.answer.second;
  }

  -- One call: BadState of either state takes and changes nothing; else push, then the taker.
  unfoldable pub received : Side S → (piece : List ℕ) → Received (Side S)
  received w piece =
      if bad w.decoder (length w.buffer) || taker.is_bad w.state then record { side = w; answer = bad_state; consumed = 0 }
      else hand_on (push_outcome w.decoder (length w.buffer) piece) (push_dest w.decoder piece w.buffer) w.state piece

-- ---- the loop

-- `hand k` is what the caller does to the taker's state before call k.
module _ {S View : Type 0} (taker : Taker S View) (hand : ℕ → S → S) where
  -- Call k.
  abbrev pub called : (k : ℕ) → Side S → (piece : List ℕ) → Received (Side S)
  called k w piece = received taker (record { decoder = w.decoder; buffer = w.buffer; state = hand k w.state }) piece

  -- What is seen of what a call leaves is what is seen of the taker's state.
  abbrev pub seen : Side S → View
  seen w = taker.shows w.state

  -- One piece.
  abbrev pub run : (k : ℕ) → Side S → (piece : List ℕ) → Run (Side S) View
  run k w piece = again.run called seen k w piece

  -- Piece after piece.
  abbrev pub drive : (k : ℕ) → Side S → (pieces : List (List ℕ)) → Run (Side S) View
  drive k w pieces = again.drive called seen k w pieces

-- Each message's encoding and one zero, one after another.
abbrev pub framed : (messages : List (List ℕ)) → List ℕ
framed [] = []
framed (m ∷ ms) = encode m ++ 0 ∷ framed ms
