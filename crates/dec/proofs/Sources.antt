-- One-shot decoding is the streaming decoder, new, over the source and a zero behind it. Assumes nothing.
use Rattle.std.specs.Prelude.{if◌then◌else◌}
use mathlib.Core.Path.{◌≡◌, refl, sym, ap, ◌∙◌}
use mathlib.Core.Bool.{Bool, true, false}
use mathlib.Core.Logic.{◌⊎◌, inl, inr, ⊎_elim}
use mathlib.Core.List.{List, [], ◌∷◌, ◌++◌}
use Prim.Native.Nat.{ℕ, zero, suc, ◌+◌, ◌<◌, min, zero-le, suc-le-suc}
use native.Mathlib.Nat.{zero-add, suc-add}
use native.Mathlib.Decide.{dec_le}
use native.Mathlib.Omega.{arith}
use lib.Dec.{eqb}
use lib.ListN.{length}
use borrow.Author.Tests.{le-ltb, lt-ltb, ne_eqb}
use Rattle.cobs.specs.Code.{body, cut}
use Rattle.cobs.specs.Answers.{Told, is_done, done, invalid_frame, target_buf_too_small}
use Rattle.cobs.specs.OneShot.{leading, closing, skipped, parsed, meant, decoded, decode_told, decode_dest}
use Rattle.cobs.proofs.Reading.{read-empty}
use Rattle.cobs.proofs.Bodies.{body-no-zero}
use Rattle.dec.specs.State.{stepped}
use Rattle.dec.specs.Stream.{new, bad, is_more, byte_outcome, result_dest, byte_dest, piece_dest, push_outcome, push_dest}
use Rattle.dec.specs.declared.state.DecoderState.{DecoderState}
use Rattle.dec.specs.declared.state.DecoderState.TheVariants.{Idle, Grab, GrabChain}
use Rattle.dec.specs.declared.stream.CobsDecoder.{CobsDecoder}
use Rattle.dec.proofs.Cases.{by_bool}
use Rattle.dec.proofs.Good.{new-good}
use Rattle.dec.proofs.Pieces.{push_dest-cut}
use Rattle.dec.proofs.Bare.{going, whole, early, run, run-body}
use Rattle.dec.proofs.Frames.{frame, ran-body, new-fits, new-small, new-dest}

-- ---- a source: zeros, then a body and what ends it, or nothing

-- leading zeros are taken and do nothing
run-skipped : (src u : List ℕ)
    → run Idle (src ++ u)
    ≡ record { end = (run Idle (skipped src ++ u)).end; out = (run Idle (skipped src ++ u)).out; took = leading src + (run Idle (skipped src ++ u)).took; state = (run Idle (skipped src ++ u)).state }
unfolding run
run-skipped [] u = rw zero-add
run-skipped (zero ∷ src) u = rw (run-skipped src u, suc-add (leading src) (run Idle (skipped src ++ u)).took)
run-skipped (suc b ∷ src) u = rw zero-add

-- the body ends at a zero that is there, or at the one behind it
closed : (s : List ℕ) → (t : List ℕ) × (s ++ 0 ∷ [] ≡ body s ++ 0 ∷ t) × (min (suc (length (body s))) (length s) ≡ length (body s) + closing s)
closed [] = ([], refl, refl)
closed (zero ∷ s) = (s ++ 0 ∷ [], refl, omega arith)
closed (suc b ∷ s) =
    let w = closed s in
    (w.0, ap (λ (l : List ℕ). suc b ∷ l) w.1, omega (arith, w.2))

-- nothing, or a body
pub some-body : (src : List ℕ) → (skipped src ≡ []) ⊎ (0 < length (body (skipped src)))
some-body [] = inl refl
some-body (zero ∷ src) = some-body src
some-body (suc b ∷ src) = inr (suc-le-suc zero-le)

length-skipped : (src : List ℕ) → leading src + length (skipped src) ≡ length src
length-skipped [] = refl
length-skipped (zero ∷ src) = omega (arith, length-skipped src)
length-skipped (suc b ∷ src) = omega arith

module _ (src : List ℕ) where
  pub run_none : skipped src ≡ [] → run Idle (src ++ 0 ∷ []) ≡ record { end = going; out = []; took = leading src + 1; state = Idle }
  unfolding run
  run_none e = run-skipped src (0 ∷ []) ∙ rw e

  meant-none : skipped src ≡ [] → meant src ≡ cut []
  unfolding meant
  meant-none e = rw e read-empty

  pub decoded-none : skipped src ≡ [] → decoded src ≡ []
  unfolding decoded
  decoded-none e = rw (meant-none e)

  pub run-some : 0 < length (body (skipped src))
      → run Idle (src ++ 0 ∷ [])
      ≡ record { end = if (meant src).whole then whole else early; out = decoded src; took = leading src + suc (length (body (skipped src))); state = Idle }
  unfolding meant decoded
  run-some k =
      let w = closed (skipped src) in
      run-skipped src (0 ∷ [])
      ∙ rw (ap (run Idle) w.1 ∙ run-body (body (skipped src)) w.0 (body-no-zero (skipped src)) k)

  parsed-some : min (leading src + suc (length (body (skipped src)))) (length src) ≡ parsed src
  unfolding parsed
  parsed-some = omega (arith, (closed (skipped src)).2, length-skipped src)

-- ---- the answer and the memory

-- The answer to a source of n bytes and a zero, as one call gives it: the zero that was supplied is not parsed.
abbrev pub one_shot : (n : ℕ) → Told → Told
one_shot n t =
    if is_done t then done t.first (min t.second n)
    else if eqb t.number 2 then invalid_frame t.first 0
    else if eqb t.number 3 then target_buf_too_small 0
    else invalid_frame 0 0

module _ (src : List ℕ) (some : 0 < length src) (room : ℕ) where
  abbrev Streams : Type 0
  Streams = decode_told src room ≡ one_shot (length src) (push_outcome new room (src ++ 0 ∷ [])).answer

  not-empty : eqb (length src) 0 ≡ false
  not-empty = ne_eqb (length src) 0 (λ e. omega arith)

  streams-none : skipped src ≡ [] → Streams
  unfolding decode_told decoded
  streams-none e =
      rw (not-empty, meant-none src e, le-ltb room 0 zero-le, new-fits (src ++ 0 ∷ []) _ (run_none src e) room zero-le)

  streams-some : 0 < length (body (skipped src)) → Streams
  unfolding decode_told
  streams-some k =
      elim (dec_le (length (decoded src)) room) [
        | yes h ↦
            rw (not-empty, le-ltb room (length (decoded src)) h, new-fits (src ++ 0 ∷ []) _ (run-some src k) room h, ran-body (meant src).whole (decoded src) (leading src + suc (length (body (skipped src)))))
            (fits (meant src).whole)
        | no h ↦
            let w = new-small (src ++ 0 ∷ []) _ (run-some src k) room (omega arith) in
            rw (not-empty, lt-ltb room (length (decoded src)) (omega arith), w.1)
      ]
    where
      fits : (t : Bool) → (if t then done (length (decoded src)) (parsed src) else invalid_frame (length (decoded src)) 0)
          ≡ one_shot (length src) (frame t (length (decoded src)) (leading src + suc (length (body (skipped src))))).answer
      fits true = rw (parsed-some src)
      fits false = refl

  pub decode-streams : Streams
  decode-streams = ⊎_elim streams-none streams-some (some-body src)

pub decode_dest-streams : (src d : List ℕ) → decode_dest src d ≡ push_dest new (src ++ 0 ∷ []) d
unfolding decode_dest decoded
decode_dest-streams src d =
    ⊎_elim (λ e. rw (meant-none src e, new-dest (src ++ 0 ∷ []) _ (run_none src e) d))
    (λ k. rw (new-dest (src ++ 0 ∷ []) _ (run-some src k) d)) (some-body src)

-- ---- without the zero: what a push of the source alone leaves

zero-result : (s : DecoderState) (place : ℕ) (m : List ℕ) → result_dest place (stepped s 0).result m ≡ m
zero-result Idle place m = refl
zero-result (Grab zero) place m = refl
zero-result (Grab (suc left)) place m = refl
zero-result (GrabChain zero) place m = refl
zero-result (GrabChain (suc left)) place m = refl

-- a zero writes nothing
zero-writes : (d : CobsDecoder) (m : List ℕ) → push_dest d (0 ∷ []) m ≡ m
unfolding push_dest piece_dest byte_dest
zero-writes d m =
    by_bool (bad d (length m)) (λ e. rw e)
    (λ e.
    let w : byte_dest d 0 m ≡ m = by_bool d.skip (λ q. rw q) (λ q. rw q (zero-result d.state d.place m)) in
    rw e (by_bool (is_more (byte_outcome d (length m) 0)) (λ q. rw q w) (λ q. rw q w)))

pub push-memory : (src d : List ℕ) → push_dest new src d ≡ decode_dest src d
push-memory src d =
    sym
    (decode_dest-streams src d
    ∙ push_dest-cut new src (0 ∷ []) d (new-good (length d))
    ∙ by_bool (is_more (push_outcome new (length d) src)) (λ q. rw q (zero-writes (push_outcome new (length d) src).next (push_dest new src d))) (λ q. rw q))
