-- 01's sentences about the encoder's calls hold. Assumes nothing.
use Rattle.std.specs.Prelude.{if◌then◌else◌}
use mathlib.Core.Path.{◌≡◌, refl, sym, ap, ap₂, ◌∙◌}
use mathlib.Core.Bool.{false, true≢false}
use mathlib.Core.List.{List, [], ◌∷◌, ◌++◌}
use Prim.Native.Nat.{ℕ, ◌+◌, ◌<◌}
use native.Mathlib.Nat.{le_refl}
use native.Mathlib.Omega.{arith}
use lib.ListN.{length, length-append}
use borrow.Author.Tests.{ne_eqb, le-ltb}
use Rattle.cobs.specs.Code.{encode, encode_in}
use Rattle.cobs.specs.Answers.{done, is_done}
use Rattle.enc.specs.State.{last_place, state_bad, state_push}
use Rattle.enc.specs.Stream.{fresh, moved, move_all, write_all, finished_length, closed, start_told, push_told}
use Rattle.enc.specs.Sentences.{Call, push, finalize, Work, answer, called, calls, begun, fit_told, Streaming, Leaves, Alone, Sentences}
use Rattle.enc.specs.declared.state.EncoderState.{EncoderState}
use Rattle.enc.specs.declared.stream.Encoder.{Encoder}
use Rattle.enc.proofs.Deciding.{by-eq, by-lt, refuted}
use Rattle.enc.proofs.Steps.{InGroup, Sound, sound, sound-push, group-moved}
use Rattle.enc.proofs.Pieces.{Good, good, move-joined, write-joined, count-all}
use Rattle.enc.proofs.Calls.{ready-fresh, finish-good}
use Rattle.enc.proofs.Meaning.{finished-encode, closed-encode}
use Rattle.enc.proofs.Joined.{fresh-good, next-moved, good-next, finished-next, dest-wrote, length-dest, rest-pushed, length-finished, rest-finished, closed-twice, alike_all}
use Rattle.enc.proofs.Unwritten.{open_pushed}

-- ---- calls one after another

-- What holds after any calls on a buffer that was d: the accepted bytes alone would have led here, but for the byte at the open code's place.
record Holds (d : List ℕ) (w : Work) : Type 0 where
  from-fresh : w.encoder ≡ move_all fresh w.accepted
  fits : Good w.encoder (length w.buffer)
  long : length w.buffer ≡ length d
  alike : closed w.encoder w.buffer ≡ closed w.encoder (write_all fresh w.accepted d)

module _ (d : List ℕ) (w : Work) (h : Holds d w) where
  push-holds : (p : List ℕ) → Holds d (called w (push p))
  push-holds p =
      let a : List ℕ = if is_done (answer w p) then p else [] in
      let m = next-moved w.encoder p (length w.buffer) in
      record {
        from-fresh = m ∙ ap (λ (e : Encoder). move_all e a) h.from-fresh ∙ sym (move-joined fresh w.accepted a);
        fits = rw (length-dest w.encoder p w.buffer) (good-next w.encoder p (length w.buffer) h.fits);
        long = length-dest w.encoder p w.buffer ∙ h.long;
        alike =
            ap₂ closed m (dest-wrote w.encoder p w.buffer)
            ∙ alike_all w.encoder a w.buffer (write_all fresh w.accepted d) h.fits.group h.alike
            ∙ ap₂ closed (sym m)
            (ap (λ (e : Encoder). write_all e a (write_all fresh w.accepted d)) h.from-fresh ∙ sym (write-joined fresh w.accepted a d));
      }

  finalize-holds : Holds d (called w finalize)
  finalize-holds =
      record {
        from-fresh = h.from-fresh;
        fits = rw (length-finished w.encoder w.buffer) h.fits;
        long = length-finished w.encoder w.buffer ∙ h.long;
        alike =
            ap (closed w.encoder) (sym (finish-good w.encoder w.buffer h.fits).1) ∙ closed-twice w.encoder w.buffer ∙ h.alike;
      }

  accepts : (piece : List ℕ) → answer w piece ≡ fit_told (w.accepted ++ piece) (length d)
  unfolding push_told fit_told
  accepts piece =
      let c : w.encoder.count + length piece ≡ length (w.accepted ++ piece) =
      omega (arith, ap (λ (e : Encoder). e.count) h.from-fresh, count-all fresh w.accepted, length-append w.accepted piece) in
      let f : finished_length (move_all w.encoder piece) ≡ length (encode (w.accepted ++ piece)) =
      ap finished_length (ap (λ (e : Encoder). move_all e piece) h.from-fresh ∙ sym (move-joined fresh w.accepted piece))
      ∙ finished-encode (w.accepted ++ piece) in
      rw ((good w.encoder (length w.buffer)).none h.fits, c, f, h.long)

  streams : Streaming d w
  streams =
      let f = finish-good w.encoder w.buffer h.fits in
      record {
        accepts = accepts;
        finished = sym f.0 ∙ ap (λ (n : ℕ). done n 0) (ap finished_length h.from-fresh ∙ finished-encode w.accepted);
        bytes =
            sym f.1 ∙ h.alike ∙ ap (λ (e : Encoder). closed e (write_all fresh w.accepted d)) h.from-fresh
            ∙ closed-encode w.accepted d;
      }

call-holds : (d : List ℕ) (w : Work) (c : Call) → Holds d w → Holds d (called w c)
call-holds d w (push p) h = push-holds d w h p
call-holds d w finalize h = finalize-holds d w h

calls-hold : (d : List ℕ) (w : Work) (cs : List Call) → Holds d w → Holds d (calls w cs)
unfolding calls
calls-hold d w [] h = h
calls-hold d w (c ∷ cs) h = calls-hold d (called w c) cs (call-holds d w c h)

begins : (d : List ℕ) → 0 < length d → Holds d (begun fresh d)
unfolding move_all write_all
begins d h = record { from-fresh = refl; fits = fresh-good (length d) h; long = refl; alike = refl }

-- ---- each call by itself, from any encoder

leaves : (w : Work) (c : Call) → Leaves w c
leaves w (push p) =
    record {
      good = λ q. (good _ _).none (good-next w.encoder p (length w.buffer) ((good _ _).holds q));
      long = length-dest w.encoder p w.buffer;
      grows = finished-next w.encoder p (length w.buffer);
      behind = rest-pushed w.encoder p w.buffer;
    }
leaves w finalize =
    record {
      good = λ q. q;
      long = length-finished w.encoder w.buffer;
      grows = le_refl _;
      behind = rest-finished w.encoder w.buffer;
    }

-- ---- the state alone

-- the code stays within 1 to 254
next-group : (s : EncoderState) (b : ℕ) → Sound s → InGroup (state_push s b).next.code
unfolding moved
next-group s b g = rw (sound-push s b g) (group-moved record { state = s; full = false; count = 0 } b g.group)

alone : (s : EncoderState) (byte : ℕ) → state_bad s ≡ false → Alone s byte
alone s byte q =
    let next = (state_push s byte).next in
    record {
      only = λ bad. by-lt last_place next.place (λ l. l)
          (λ l. absurd (true≢false (sym bad ∙ (sound next).none record { group = next-group s byte ((sound s).holds q); low = l })));
      all = λ l. sym (refuted (sound next) (λ g. omega (arith, g.low)));
    }

-- ---- all of them

pub sentences : Sentences
unfolding start_told fit_told encode encode_in
sentences =
    record {
      streaming = λ d e q cs. let r = ready-fresh (length d) e q in rw r.1 (streams d _ (calls-hold d (begun fresh d) cs (begins d r.0)));
      starts = λ room. by-eq room 0 (λ z. rw z refl) (λ nz. rw (ne_eqb room 0 nz, le-ltb room 1 (omega arith)));
      refuses = refl;
      unwritten = open_pushed;
      leaves = leaves;
      alone = alone;
    }
