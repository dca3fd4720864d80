-- 01's sentences about the streaming decoder, to be ticked off. `proofs/Sentences.antt` proves them of every decoder that is not
-- BadState, with every room. A `feed` is a push of one byte. Assumes nothing.
use Rattle.std.specs.Prelude.{◌≡◌, true, false, List, [], ◌∷◌, ◌++◌, ℕ, suc, ◌≤◌, ◌<◌, length, take, drop}
use Rattle.cobs.specs.Code.{NoZero, over}
use Rattle.cobs.specs.Answers.{done, invalid_frame, target_buf_too_small, longest}
use Rattle.cobs.specs.OneShot.{decoded}
use Rattle.dec.specs.State.{given_told}
use Rattle.dec.specs.Stream.{at, new, skipping, bad, goes, stops, is_more, further, used, push_outcome, push_dest}
use Rattle.dec.specs.declared.state.DecoderState.TheVariants.{GrabChain}
use Rattle.dec.specs.declared.stream.CobsDecoder.{CobsDecoder}

-- Bytes handed over however cut, over as many pushes as they take: each push goes on behind the bytes that the one before it used.
pub data Pushes (room : ℕ) : CobsDecoder → (bytes : List ℕ) → CobsDecoder → Type 0 where
  none : {d : CobsDecoder} → Pushes room d [] d
  push : {d e : CobsDecoder} {bytes : List ℕ} (piece later : List ℕ) → piece ++ later ≡ bytes
      → Pushes room (push_outcome d room piece).next (drop (used (length piece) (push_outcome d room piece)) bytes) e → Pushes room d bytes e

-- Of the piece n bytes are consumed: the push of fewer asks for more, and that of n gives the answer.
pub record Consumed (d : CobsDecoder) (room : ℕ) (piece : List ℕ) (n : ℕ) : Type 0 where
  pub some : 0 < n
  pub within : n ≤ length piece
  pub fewer : (k : ℕ) → k < n → is_more (push_outcome d room (take k piece)) ≡ true
  pub enough : push_outcome d room (take n piece) ≡ push_outcome d room piece

-- Everything through the next zero is dropped, and what follows it goes to a new decoder.
pub record Drops (d : CobsDecoder) (room : ℕ) : Type 0 where
  pub inside : (s : List ℕ) → NoZero s → push_outcome d room s ≡ goes d
  pub inside_dest : (s m : List ℕ) → NoZero s → length m ≡ room → push_dest d s m ≡ m
  pub through : (s t : List ℕ) → NoZero s → push_outcome d room (s ++ 0 ∷ t) ≡ further (suc (length s)) (push_outcome new room t)
  pub through_dest : (s t m : List ℕ) → NoZero s → length m ≡ room → push_dest d (s ++ 0 ∷ t) m ≡ push_dest new t m

-- 01's sentences about a decoder that is not BadState, in their order.
pub record Sentences (d : CobsDecoder) (room : ℕ) : Type 0 where
  -- "A push stops after a frame or refusal": what stands after the bytes that gave it does not matter
  pub stopping : (p q : List ℕ) → is_more (push_outcome d room p) ≡ false → push_outcome d room (p ++ q) ≡ push_outcome d room p
  pub stopping_dest : (p q m : List ℕ) → length m ≡ room → is_more (push_outcome d room p) ≡ false → push_dest d (p ++ q) m ≡ push_dest d p m
  -- "and says how many bytes of the piece it consumed, for refusals too"
  pub consumed : (p : List ℕ) → is_more (push_outcome d room p) ≡ false → Consumed d room p (push_outcome d room p).answer.second
  -- "An early zero gives InvalidFrame and the next byte starts fresh": where the state alone answers InvalidFrame to a zero
  pub early : (t : List ℕ) → given_told d.state 0 ≡ invalid_frame 0 0 → push_outcome d room (0 ∷ t) ≡ stops new (invalid_frame d.place 1)
  -- "After TargetBufTooSmall everything through the next zero is dropped without a second refusal"
  pub overfull : (p : List ℕ) → (push_outcome d room p).answer.number ≡ 3 → Drops (push_outcome d room p).next room
  -- "After any bytes that end in zero, the next frame is answered as by a new decoder", which it then is
  pub restarts : (s : List ℕ) (e : CobsDecoder) → Pushes room d (s ++ 0 ∷ []) e → e ≡ new
  -- any bytes can be handed over so
  pub handed : (s : List ℕ) → (e : CobsDecoder) × Pushes room d s e
  -- "The write place is 0 again after a frame or refusal"
  pub place : (p : List ℕ) → is_more (push_outcome d room p) ≡ false → (push_outcome d room p).next.place ≡ 0
  -- no call leads to a BadState, nor changes the destination's length
  pub good : (p : List ℕ) → bad (push_outcome d room p).next room ≡ false
  pub long : (p m : List ℕ) → length m ≡ room → length (push_dest d p m) ≡ room

-- The n bytes up to the first decoded byte that has no room.
pub record Overfull (room : ℕ) (piece : List ℕ) (n : ℕ) : Type 0 where
  pub over : room < length (decoded (take n piece))
  pub fewer : (k : ℕ) → k < n → length (decoded (take k piece)) ≤ room

-- 01's sentences about a new decoder, of every piece.
pub record FromNew (room : ℕ) (piece : List ℕ) : Type 0 where
  -- TargetBufTooSmall: "a decoded byte has no room", exactly then; the byte that gives it is the last one consumed
  pub small : room < length (decoded piece) → (n : ℕ) × Overfull room piece n × (push_outcome new room piece ≡ stops skipping (target_buf_too_small n))
  pub fits : length (decoded piece) ≤ room → (push_outcome new room piece).answer.number ≡ 3 → ⊥
  -- "A streaming piece that ends inside a body writes only what it decodes. After a frame, 2 or 3 the destination holds the decoded
  -- bytes (those before a fault), the rest untouched"
  pub memory : (m : List ℕ) → push_dest new piece m ≡ over (decoded piece) m

-- A state that no call reaches, the most bytes decoded and no room left.
abbrev pub full : CobsDecoder
full = at longest (GrabChain 255)

-- At both ends, written out, and 01's own example.
pub record Ends : Type 0 where
  -- from `full`
  pub consumed : Consumed full longest (0x11 ∷ 0x22 ∷ []) 1
  pub early : push_outcome full longest (0x00 ∷ []) ≡ stops new (invalid_frame longest 1)
  pub overfull : Drops (push_outcome full longest (0x11 ∷ [])).next longest
  pub restarts : (s : List ℕ) (e : CobsDecoder) → Pushes longest full (s ++ 0x00 ∷ []) e → e ≡ new
  pub good : (p : List ℕ) → bad (push_outcome full longest p).next longest ≡ false
  -- into nothing: the empty message has room, and one byte has not
  pub nothing : push_outcome new 0 (0x01 ∷ 0x00 ∷ []) ≡ stops new (done 0 2)
  pub one : Overfull 0 (0x02 ∷ 0x11 ∷ 0x00 ∷ []) 2
  -- "into two bytes, 02 11 02 22 00 02 33 00: TargetBufTooSmall, 4 consumed; the rest gives frame 1, parsed 4"
  pub two : push_outcome new 2 (0x02 ∷ 0x11 ∷ 0x02 ∷ 0x22 ∷ 0x00 ∷ 0x02 ∷ 0x33 ∷ 0x00 ∷ []) ≡ stops skipping (target_buf_too_small 4)
  pub rest : push_outcome skipping 2 (0x00 ∷ 0x02 ∷ 0x33 ∷ 0x00 ∷ []) ≡ stops new (done 1 4)
