-- A whole frame over the wire, from a new decoder, is handed on once; a zero between frames and the front of one more say nothing.
-- Assumes nothing.
use mathlib.Core.Path.{◌≡◌, refl, sym, ap, ◌∙◌}
use mathlib.Core.Bool.{true, false}
use mathlib.Core.Logic.{◌≢◌}
use mathlib.Core.List.{List, [], ◌∷◌, ◌++◌, append_assoc}
use Prim.Native.Nat.{ℕ, zero, suc, ◌+◌, ◌≤◌, ◌<◌, suc-le-suc, zero-le}
use native.Mathlib.Nat.{not-suc-le-zero}
use native.Mathlib.Omega.{arith}
use lib.ListN.{length, drop, length-append}
use lib.Seq.{take_at, drop-append-add, drop-length}
use borrow.Author.Tests.{ne_eqb, eqb-true}
use Rattle.cobs.specs.Answers.{tell, done, more}
use Rattle.cobs.specs.Code.{encode, over}
use Rattle.cobs.proofs.Over.{over-fits}
use Rattle.dec.specs.Stream.{Outcome, new, goes, stops, is_more, bad, byte_outcome, byte_dest, piece_outcome, piece_dest, push_outcome, push_dest}
use Rattle.dec.proofs.Cases.{by_bool}
use Rattle.dec.proofs.Good.{new-good}
use Rattle.dec.proofs.Pieces.{joined_stop, push_piece, push_dest_piece, push-cut}
use Rattle.dec.proofs.Restart.{used-within}
use Rattle.dec.proofs.Frames.{push-encode, push_dest-encode}
use Rattle.wire.specs.Again as again
use Rattle.wire.specs.Again.{Run, stopped, heard}
use Rattle.wire.specs.Loop.{Side, Taker, received}
use Rattle.wire.proofs.Loop.{Good, Alike, alike-sym, alike_trans, run_in, by_bytes, by_bytes-goes, piece_bytes, heard-alike}

-- the front of an encoding, from a new decoder: the piece is used up
pub front-more : (m s later : List ℕ) (room : ℕ) → length m ≤ room → s ++ later ≡ encode m → is_more (push_outcome new room s) ≡ true
front-more m s later room h e =
    by_bool (is_more (push_outcome new room s)) (λ t. t)
    (λ t.
    let g : bad new room ≡ false = new-good room in
    let a : (s ++ (later ++ 0 ∷ [])) ≡ encode m ++ 0 ∷ [] = sym (append_assoc s later (0 ∷ [])) ∙ ap (λ (l : List ℕ). l ++ 0 ∷ []) e in
    let c : push_outcome new room s ≡ stops new (done (length m) (length (encode m) + 1)) =
    sym (joined_stop (length s) (push_outcome new room s) (push_outcome (push_outcome new room s).next room (later ++ 0 ∷ [])) t)
    ∙ sym (push-cut new s (later ++ 0 ∷ []) room g) ∙ ap (push_outcome new room) a ∙ push-encode m [] room h in
    let u : length (encode m) + 1 ≤ length s =
    rw (← push_piece new room g s, c) at (used-within s new room) in
    absurd (omega (arith, u, length-append s later, ap length e)))

-- no byte: the decoder waits
pub push-none : (room : ℕ) → push_outcome new room [] ≡ goes new
unfolding piece_outcome
push-none room = push_piece new room (new-good room) []

-- what is left after a frame and its zero
drop_past : (s t : List ℕ) → drop (length s + 1) (s ++ 0 ∷ t) ≡ t
drop_past s t = drop-append-add s (0 ∷ t) 1

module _ {S View : Type 0} (taker : Taker S View) (Fine : S → Type 0) (fit : (s : S) → Fine s → taker.is_bad s ≡ false)
    (keeps : (s : S) (f : List ℕ) → Fine s → Fine (taker.after s f))
    (answers : (s : S) (f : List ℕ) → (taker.says s f).number ≢ more.number) where
  -- a side that waits for a frame
  abbrev pub waiting : (buffer : List ℕ) → S → Side S
  waiting buffer s = record { decoder = new; buffer = buffer; state = s }

  pub waiting-good : (buffer : List ℕ) (s : S) → Fine s → Good taker Fine fit keeps (waiting buffer s)
  waiting-good buffer s h = record { decoding = new-good (length buffer); taking = h }

  -- a call over a whole frame and more: the frame is handed on, the rest is left
  received-frame : (buffer : List ℕ) (s : S) → Fine s → (m t : List ℕ) → length m ≤ length buffer
      → received taker (waiting buffer s) (encode m ++ 0 ∷ t)
      ≡ record { side = waiting (over m buffer) (taker.after s m); answer = taker.says s m; consumed = length (encode m) + 1 }
  unfolding received
  received-frame buffer s h m t l =
      rw (new-good (length buffer), fit s h, push-encode m t (length buffer) l, push_dest-encode m t buffer, over-fits m buffer l, take_at m (drop (length m) buffer) (length m) refl)

  run_step : (n k : ℕ) (w : Side S) (p : List ℕ) → 0 < length p
      → run_in taker Fine fit keeps (suc n) k w p
      ≡ heard (received taker w p).answer (taker.shows (received taker w p).side.state) (run_in taker Fine fit keeps n (suc k) (received taker w p).side (drop (received taker w p).consumed p))
  unfolding again.run_in
  run_step n k w [] h = absurd (not-suc-le-zero h)
  run_step n k w (b ∷ p) h = refl

  -- what the taker says to a frame, and then the rest of the run
  abbrev pub answered : S → (m : List ℕ) → Run (Side S) View → Run (Side S) View
  answered s m r =
      record { said = record { answer = taker.says s m; shown = taker.shows (taker.after s m) } ∷ r.said; side = r.side; calls = r.calls }

  heard-answered : (s : S) (m : List ℕ) (r : Run (Side S) View) → heard (taker.says s m) (taker.shows (taker.after s m)) r ≡ answered s m r
  heard-answered s m r = rw (ne_eqb (taker.says s m).number 14 (answers s m))

  -- a frame's bytes and more
  pub deliver-one : (buffer : List ℕ) (s : S) → Fine s → (m t : List ℕ) → length m ≤ length buffer
      → Alike taker Fine fit keeps (by_bytes taker Fine fit keeps (waiting buffer s) (encode m ++ 0 ∷ t))
      (answered s m (by_bytes taker Fine fit keeps (waiting (over m buffer) (taker.after s m)) t))
  deliver-one buffer s h m t l =
      let p : List ℕ = encode m ++ 0 ∷ t in
      let n : ℕ = length p in
      let w : Side S = waiting buffer s in
      let v : Side S = waiting (over m buffer) (taker.after s m) in
      let r : received taker w p ≡ record { side = v; answer = taker.says s m; consumed = length (encode m) + 1 } = received-frame buffer s h m t l in
      let whole : run_in taker Fine fit keeps (suc n) 0 w p ≡ heard (taker.says s m) (taker.shows (taker.after s m)) (run_in taker Fine fit keeps n 1 v t) =
      run_step n 0 w p (omega (arith, length-append (encode m) (0 ∷ t)))
      ∙ rw (r, drop_past (encode m) t) in
      rw (← heard-answered s m (by_bytes taker Fine fit keeps v t))
      (alike_trans taker Fine fit keeps
      (alike-sym taker Fine fit keeps (piece_bytes taker Fine fit keeps p (suc n) 0 w (waiting-good buffer s h) (omega arith)))
      (rw whole
      (heard-alike taker Fine fit keeps (taker.says s m) (taker.shows (taker.after s m)) (run_in taker Fine fit keeps n 1 v t) (by_bytes taker Fine fit keeps v t)
      (piece_bytes taker Fine fit keeps t n 1 v (waiting-good (over m buffer) (taker.after s m) (keeps s m h)) (omega (arith, length-append (encode m) (0 ∷ t)))))))

  run_none : (n k : ℕ) (w : Side S) → run_in taker Fine fit keeps n k w [] ≡ stopped k w
  unfolding again.run_in
  run_none zero k w = refl
  run_none (suc n) k w = refl

  -- a call over bytes in which no frame ends: nothing is handed on
  received-front : (buffer : List ℕ) (s : S) → Fine s → (p : List ℕ) → (o : Outcome) → push_outcome new (length buffer) p ≡ o → o.answer.number ≡ 14
      → received taker (waiting buffer s) p
      ≡ record { side = record { decoder = o.next; buffer = push_dest new p buffer; state = s }; answer = tell 14 o.answer.first 0; consumed = length p }
  unfolding received
  received-front buffer s h p o e k = rw (new-good (length buffer), fit s h, e, k)

  -- the decoder inside a frame, of which p has come
  abbrev pub inside : (buffer p : List ℕ) → S → Side S
  inside buffer p s = record { decoder = (push_outcome new (length buffer) p).next; buffer = push_dest new p buffer; state = s }

  inside-none : (buffer : List ℕ) (s : S) → inside buffer [] s ≡ waiting buffer s
  unfolding piece_dest
  inside-none buffer s = rw (push-none (length buffer), push_dest_piece new [] buffer (new-good (length buffer)))

  -- the front of one more says nothing and changes no state of the taker
  pub deliver-front : (buffer : List ℕ) (s : S) → Fine s → (p : List ℕ) → is_more (push_outcome new (length buffer) p) ≡ true
      → Alike taker Fine fit keeps (by_bytes taker Fine fit keeps (waiting buffer s) p) (stopped 1 (inside buffer p s))
  unfolding by_bytes
  deliver-front buffer s h [] e = record { said = refl; side = sym (inside-none buffer s) }
  deliver-front buffer s h (b ∷ t) e =
      let p : List ℕ = b ∷ t in
      let o : Outcome = push_outcome new (length buffer) p in
      let w : Side S = waiting buffer s in
      let whole : run_in taker Fine fit keeps (suc (length p)) 0 w p ≡ stopped 1 (inside buffer p s) =
      run_step (length p) 0 w p (suc-le-suc zero-le)
      ∙ rw (received-front buffer s h p o refl (eqb-true o.answer.number 14 e), drop-length p) (run_none (length p) 1 (inside buffer p s)) in
      rw (← whole)
      (alike-sym taker Fine fit keeps (piece_bytes taker Fine fit keeps p (suc (length p)) 0 w (waiting-good buffer s h) (omega arith)))

  -- a zero between frames changes nothing
  pub idle_zero : (buffer : List ℕ) (s : S) → Fine s → (t : List ℕ)
      → by_bytes taker Fine fit keeps (waiting buffer s) (0 ∷ t) ≡ by_bytes taker Fine fit keeps (waiting buffer s) t
  unfolding byte_outcome byte_dest
  idle_zero buffer s h t = by_bytes-goes taker Fine fit keeps (waiting buffer s) (waiting-good buffer s h) 0 t refl
