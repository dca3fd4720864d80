-- Each way through `receive`, on plain values. Assumes nothing.
use Rattle.std.specs.Prelude.{Option, Some, None, Result, Ok, Err, is_err, if◌then◌else◌}
use mathlib.Core.Path.{◌≡◌, refl, sym, ap, ap₂, ◌∙◌}
use mathlib.Core.Bool.{Bool, true, false, ◌||◌, false≢true, true≢false}
use mathlib.Core.List.{List, [], ◌∷◌}
use Prim.Native.Nat.{ℕ, ◌≤◌}
use native.Mathlib.Omega.{arith}
use lib.Dec.{eqb, ltb}
use lib.ListN.{length, take}
use Rattle.cobs.specs.Answers.{bad_state, is_done}
use Rattle.cobs.proofs.Told.{unlike}
use Rattle.cobs.specs.declared.refusals.BadState as bad_state_of
use Rattle.dec.specs.State.{Given, stepped}
use Rattle.dec.specs.Stream.{Outcome, stops, is_more, bad, outcome, result_outcome, byte_outcome, piece_outcome, push_outcome, push_dest}
use Rattle.dec.specs.declared.state.DecoderState.{DecoderState}
use Rattle.dec.specs.declared.state.DecodeResult.TheVariants.{NoData, DataStart, DataComplete, DataContinue}
use Rattle.dec.specs.declared.stream.CobsDecoder.{CobsDecoder}
use Rattle.dec.specs.declared.stream.Frame.{Frame}
use Rattle.dec.specs.declared.stream.PushError.TheVariants as push
use Rattle.dec.specs.declared.stream.Pushed.{Pushed}
use Rattle.dec.proofs.Cases.{by_bool}
use Rattle.dec.proofs.Good.{Good, good_of, good-byte}
use Rattle.dec.proofs.Pieces.{piece_goes, piece_stops, byte-goes, further-keeps, further-counts, push_piece}
use Rattle.batch.specs.State.{is_bad, told_standing, stand_by, stand_told, stands_told}
use Rattle.batch.specs.Frame.{accept_told, accept_next, accept_table}
use Rattle.batch.specs.declared.Receiver.{Receiver}
use Rattle.batch.specs.declared.Close.{Close}
use Rattle.batch.specs.declared.Standing.{Standing}
use Rattle.batch.specs.declared.Standing.TheVariants as standing
use Rattle.wire.specs.Loop.{hand_on, received}
use Rattle.wire.specs.Receive.{accepting}
use Rattle.wire.specs.Call.{told_received, calls, leaves}
use Rattle.wire.specs.declared.Wire.{Wire}
use Rattle.wire.specs.declared.Receipt.{Receipt}
use Rattle.wire.specs.declared.Refusal.{Refusal}
use Rattle.wire.specs.declared.Refusal.TheVariants.{InvalidFrame, TargetBufTooSmall, BadState}
use Rattle.wire.proofs.Loop.{length_push}

-- ---- the receiver's BadState

stand-number : (marked sum : ℕ) (c : Option Close) → stand_by marked sum c ≡ bad_state → ⊥
stand-number m s None e = unlike e (λ z. omega arith)
stand-number m s (Some c) e =
    by_bool (ltb m c.count) (λ q. unlike (rw q at e) (λ z. omega arith))
    (λ q. by_bool (eqb s c.total) (λ p. unlike (rw (q, p) at e) (λ z. omega arith)) (λ p. unlike (rw (q, p) at e) (λ z. omega arith)))

bad-told : (r : Receiver) (n : ℕ) → stands_told r n ≡ bad_state → is_bad r n ≡ true
unfolding stands_told stand_told
bad-told r n e = by_bool (is_bad r n) (λ q. q) (λ q. absurd (stand-number _ _ r.close (rw q at e)))

good-told : (r : Receiver) (n : ℕ) → (stands_told r n ≡ bad_state → ⊥) → is_bad r n ≡ false
unfolding stands_told
good-told r n h = by_bool (is_bad r n) (λ q. absurd (h (rw q))) (λ q. q)

bad-standing : (s : Result Standing bad_state_of.BadState) → is_err s ≡ true → told_standing s ≡ bad_state
bad-standing (Ok x) h = absurd (true≢false (sym h))
bad-standing (Err e) h = refl

not_bad-standing : (s : Result Standing bad_state_of.BadState) → is_err s ≡ false → told_standing s ≡ bad_state → ⊥
not_bad-standing (Ok standing.Open) h e = unlike e (λ z. omega arith)
not_bad-standing (Ok (standing.Missing n)) h e = unlike e (λ z. omega arith)
not_bad-standing (Ok standing.Complete) h e = unlike e (λ z. omega arith)
not_bad-standing (Ok standing.Differs) h e = unlike e (λ z. omega arith)
not_bad-standing (Err x) h e = true≢false h

-- what `handed` makes
abbrev pub Handed : Receipt → CobsDecoder → Receiver → Result (Option Standing) Refusal → ℕ → Type 0
Handed r d q a n = (r.next.decoder ≡ d) × (r.next.receiver ≡ q) × (r.answer ≡ a) × (r.consumed ≡ n)

leaves_is : (r : Receipt) (d : CobsDecoder) (q : Receiver) (a : Result (Option Standing) Refusal) (n : ℕ) → Handed r d q a n → (buffer table : List ℕ)
    → leaves r buffer table
    ≡ record { side = record { decoder = d; buffer = buffer; state = record { receiver = q; table = table } }; answer = told_received a; consumed = n }
leaves_is r d q a n h buffer table = rw (h.0, h.1, h.2, h.3)

-- a decoder's BadState is what a push answers and leaves
push-then : (w : Wire) (buffer table piece : List ℕ) → is_bad w.receiver (length table) ≡ false
    → received accepting (calls w buffer table) piece
    ≡ hand_on accepting (push_outcome w.decoder (length buffer) piece) (push_dest w.decoder piece buffer) (record { receiver = w.receiver; table = table }) piece
unfolding received push_outcome push_dest
push-then w buffer table piece g = rw g (by_bool (bad w.decoder (length buffer)) (λ q. rw q) (λ q. rw q))

-- ---- a frame's size fits the room

result-size : (place room : ℕ) → place ≤ room → (s : DecoderState) (r : Given) → is_done (result_outcome place room s r).answer ≡ true
    → (result_outcome place room s r).answer.first ≤ room
result-size place room h s (Ok NoData) e = absurd (false≢true e)
result-size place room h s (Ok DataStart) e = absurd (false≢true e)
result-size place room h s (Ok DataComplete) e = h
result-size place room h s (Ok (DataContinue x)) e =
    by_bool (ltb place room) (λ q. absurd (false≢true (rw q at e))) (λ q. absurd (false≢true (rw q at e)))
result-size place room h s (Err _) e = absurd (false≢true e)

push-bad : (d : CobsDecoder) (room : ℕ) (p : List ℕ) → bad d room ≡ true → push_outcome d room p ≡ stops d bad_state
unfolding push_outcome
push-bad d room p q = rw q

byte-size : (d : CobsDecoder) (room b : ℕ) → Good d room → is_done (byte_outcome d room b).answer ≡ true → (byte_outcome d room b).answer.first ≤ room
unfolding byte_outcome
byte-size d room b g =
    by_bool d.skip (λ q. rw q (λ e. absurd (false≢true e)))
    (λ q. rw q (result-size d.place room g.within (stepped d.state b).state (stepped d.state b).result))

piece_size : (p : List ℕ) (d : CobsDecoder) (room : ℕ) → Good d room → is_done (piece_outcome d room p).answer ≡ true → (piece_outcome d room p).answer.first ≤ room
unfolding piece_outcome
piece_size [] d room g = λ e. absurd (false≢true e)
piece_size (b ∷ p) d room g =
    let o : Outcome = byte_outcome d room b in
    let n : Outcome = piece_outcome o.next room p in
    by_bool (is_more o)
    (λ q.
    rw (piece_goes d room b p o.next (byte-goes d room b q))
    (by_bool (is_more n)
    (λ m. rw (further-keeps 1 n m) (piece_size p o.next room (good-byte d room b g)))
    (λ m. rw (further-counts 1 n m) (piece_size p o.next room (good-byte d room b g)))))
    (λ q. rw (piece_stops d room b p q) (byte-size d room b g))

push-size : (d : CobsDecoder) (room : ℕ) (p : List ℕ) → is_done (push_outcome d room p).answer ≡ true → (push_outcome d room p).answer.first ≤ room
push-size d room p =
    by_bool (bad d room) (λ q. rw (push-bad d room p q) (λ e. absurd (false≢true e)))
    (λ q. rw (push_piece d room q p) (piece_size p d room (good_of d room q)))

module _ (w : Wire) (buffer table piece : List ℕ) where
  pub call-bad : (s : Result Standing bad_state_of.BadState) → told_standing s ≡ stands_told w.receiver (length table) → is_err s ≡ true
      → (r : Receipt) → Handed r w.decoder w.receiver (Err BadState) 0 → leaves r buffer table ≡ received accepting (calls w buffer table) piece
  unfolding received
  call-bad s e q r h =
      leaves_is r w.decoder w.receiver (Err BadState) 0 h buffer table
      ∙ sym (rw (bad-told w.receiver (length table) (sym e ∙ bad-standing s q)) (go (bad w.decoder (length buffer))))
    where
      go : (t : Bool) → (if t || true then record { side = calls w buffer table; answer = bad_state; consumed = 0 } else hand_on accepting (push_outcome w.decoder (length buffer) piece) (push_dest w.decoder piece buffer) (record { receiver = w.receiver; table = table }) piece)
          ≡ record { side = calls w buffer table; answer = bad_state; consumed = 0 }
      go true = refl
      go false = refl

  -- ---- the receiver's state is good: push, then accept

  module _ (s : Result Standing bad_state_of.BadState) (e : told_standing s ≡ stands_told w.receiver (length table)) (k : is_err s ≡ false)
      (pushed : Pushed) (left : List ℕ) (o : outcome pushed ≡ push_outcome w.decoder (length buffer) piece) (m : left ≡ push_dest w.decoder piece buffer) where
    good-here : is_bad w.receiver (length table) ≡ false
    good-here = good-told w.receiver (length table) (λ q. not_bad-standing s k (e ∙ q))

    push-call : received accepting (calls w buffer table) piece ≡ hand_on accepting (outcome pushed) left (record { receiver = w.receiver; table = table }) piece
    push-call =
        push-then w buffer table piece good-here
        ∙ ap₂ (λ (x : Outcome) (y : List ℕ). hand_on accepting x y (record { receiver = w.receiver; table = table }) piece) (sym o) (sym m)

    pub call-more : pushed.answer ≡ Ok None → (r : Receipt) → Handed r pushed.next w.receiver (Ok None) (length piece)
        → leaves r left table ≡ received accepting (calls w buffer table) piece
    call-more q r h = leaves_is r pushed.next w.receiver (Ok None) (length piece) h left table ∙ sym (push-call ∙ rw q)

    pub call_invalid : (decoded consumed : ℕ) → pushed.answer ≡ Err (push.InvalidFrame decoded consumed) → (r : Receipt) → Handed r pushed.next w.receiver (Err (InvalidFrame decoded)) consumed
        → leaves r left table ≡ received accepting (calls w buffer table) piece
    call_invalid decoded consumed q r h = leaves_is r pushed.next w.receiver (Err (InvalidFrame decoded)) consumed h left table ∙ sym (push-call ∙ rw q)

    pub call-small : (consumed : ℕ) → pushed.answer ≡ Err (push.TargetBufTooSmall consumed) → (r : Receipt) → Handed r pushed.next w.receiver (Err TargetBufTooSmall) consumed
        → leaves r left table ≡ received accepting (calls w buffer table) piece
    call-small consumed q r h = leaves_is r pushed.next w.receiver (Err TargetBufTooSmall) consumed h left table ∙ sym (push-call ∙ rw q)

    pub call-state : pushed.answer ≡ Err push.BadState → (r : Receipt) → Handed r pushed.next w.receiver (Err BadState) 0
        → leaves r left table ≡ received accepting (calls w buffer table) piece
    call-state q r h = leaves_is r pushed.next w.receiver (Err BadState) 0 h left table ∙ sym (push-call ∙ rw q)

    -- a frame fits the buffer, and goes to the receiver
    pub frame-room : (frame : Frame) → pushed.answer ≡ Ok (Some frame) → frame.size ≤ length left
    frame-room frame q =
        let a : is_done (push_outcome w.decoder (length buffer) piece).answer ≡ true = sym (ap (λ (x : Outcome). is_done x.answer) o) ∙ rw q in
        let f : (push_outcome w.decoder (length buffer) piece).answer.first ≡ frame.size = sym (ap (λ (x : Outcome). x.answer.first) o) ∙ rw q in
        let l : length left ≡ length buffer = ap length m ∙ length_push w.decoder piece buffer in
        omega (arith, push-size w.decoder (length buffer) piece a)

    pub call-frame : (frame : Frame) → pushed.answer ≡ Ok (Some frame) → (after : Receiver) (a : Result (Option Standing) Refusal) (table' : List ℕ)
        → after ≡ accept_next w.receiver table (take frame.size left) → told_received a ≡ accept_told w.receiver table (take frame.size left) → table' ≡ accept_table w.receiver table (take frame.size left)
        → (r : Receipt) → Handed r pushed.next after a frame.parsed → leaves r left table' ≡ received accepting (calls w buffer table) piece
    call-frame frame q after a table' x y z r h =
        leaves_is r pushed.next after a frame.parsed h left table' ∙ rw (x, y, z) (sym (push-call ∙ rw q))
