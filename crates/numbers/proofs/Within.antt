-- States that a list of numbers can hold, and that a call on bytes leads from such states to such. Assumes nothing.
use Rattle.std.specs.Prelude.{Option, Some, None}
use mathlib.Core.Path.{◌≡◌, refl}
use mathlib.Core.Bool.{Bool, true, false, ◌||◌}
use mathlib.Core.List.{List}
use Prim.Native.Nat.{ℕ, ◌<◌}
use native.Mathlib.Omega.{arith}
use lib.ListN.{length, get_or, take}
use Rattle.cobs.specs.Answers.{is_done}
use Rattle.cobs.specs.Code.{Bytes}
use Rattle.cobs.proofs.Wide.{bytes_take}
use Rattle.dec.specs.Stream.{Outcome, bad, piece_outcome, piece_dest}
use Rattle.dec.specs.declared.state.DecoderState.{DecoderState}
use Rattle.dec.specs.declared.state.DecoderState.TheVariants.{Idle, Grab, GrabChain}
use Rattle.dec.specs.declared.stream.CobsDecoder.{CobsDecoder}
use Rattle.dec.proofs.Cases.{by_bool}
use Rattle.dec.proofs.Pieces.{push_piece, push_dest_piece}
use Rattle.dec.proofs.Wide.{left, piece_left, piece_bytes}
use Rattle.batch.specs.State.{is_bad}
use Rattle.batch.specs.Frame.{accept_next}
use Rattle.batch.specs.declared.Receiver.{Receiver}
use Rattle.batch.specs.declared.Close.{Close}
use Rattle.batch.proofs.Good.{Good, good, total-fits}
use Rattle.batch.proofs.Kept.{accept-batch, closed_total, accept-closed, accept-good}
use Rattle.wire.specs.Loop.{received}
use Rattle.wire.specs.Receive.{accepting}
use Rattle.wire.specs.Call.{calls, wire_of}
use Rattle.wire.specs.declared.Wire.{Wire}
use Rattle.numbers.specs.Numbers.{state_numbers, close_numbers}
use Rattle.numbers.specs.Helpers.{Fits}

-- Each part within its types.
pub record Within (w : Wire) : Type 0 where
  pub left : left w.decoder.state < 256
  pub total : w.receiver.total < 4294967296
  pub closed : closed_total w.receiver.close < 4294967296
  pub batch : w.receiver.batch < 65536
  pub words : length w.receiver.marks ≡ 64

left_is : (s : DecoderState) → left s ≡ get_or (state_numbers s) 1 0
left_is Idle = refl
left_is (Grab n) = refl
left_is (GrabChain n) = refl

closed_is : (c : Option Close) → closed_total c ≡ get_or (close_numbers c) 2 0
closed_is None = refl
closed_is (Some c) = refl

pub within-fits : (w : Wire) → Within w → Fits w
within-fits w h = record {
  left = rw (← left_is w.decoder.state) h.left;
  total = h.total;
  closed = rw (← closed_is w.receiver.close) h.closed;
  batch = h.batch;
}

-- ---- one call

module _ (w : Wire) (h : Within w) (table f : List ℕ) (b : Bytes f) (g : Good w.receiver (length table)) where
  abbrev after : Receiver
  after = accept_next w.receiver table f

  accept-within : (d : CobsDecoder) → left d.state < 256 → Within (record { decoder = d; receiver = after })
  accept-within d l =
      let kept = accept-good w.receiver table f (length table) g in
      record {
        left = l;
        total = omega (arith, total-fits after (length table) kept);
        closed = accept-closed w.receiver table f b h.closed;
        batch = rw (accept-batch w.receiver table f) h.batch;
        words = kept.words;
      }

either : (x y : Bool) → (x || y) ≡ false → (x ≡ false) × (y ≡ false)
either true y e = (e, let z : ◌≡◌ {A = ℕ} 0 1 = cc in absurd (omega arith))
either false y e = (refl, e)

module _ (w : Wire) (h : Within w) (buffer table piece : List ℕ) (b : Bytes buffer) (p : Bytes piece) where
  -- What a call leaves.
  pub record Leaves : Type 0 where
    pub states : Within (wire_of (received accepting (calls w buffer table) piece).side)
    pub bytes : Bytes (received accepting (calls w buffer table) piece).side.buffer

  pub received-within : Leaves
  unfolding received
  received-within =
      let room : ℕ = length buffer in
      by_bool (bad w.decoder room || is_bad w.receiver (length table))
      (λ e. record { states = rw e h; bytes = rw e b })
      (λ e.
      let fine = either (bad w.decoder room) (is_bad w.receiver (length table)) e in
      let o : Outcome = piece_outcome w.decoder room piece in
      let l = piece_left piece w.decoder room h.left p in
      let m : List ℕ = piece_dest w.decoder room piece buffer in
      let bs : Bytes m = piece_bytes piece w.decoder room buffer p b in
      let g = good w.receiver (length table) h.words fine.1 in
      record {
        states =
            rw (e, push_piece w.decoder room fine.0 piece, push_dest_piece w.decoder piece buffer fine.0)
            (by_bool (is_done o.answer)
            (λ d. rw d (accept-within w h table (take o.answer.first m) (bytes_take m o.answer.first bs) g o.next l))
            (λ d. rw d (record { left = l; total = h.total; closed = h.closed; batch = h.batch; words = h.words })));
        bytes = rw (e, push_dest_piece w.decoder piece buffer fine.0) bs;
      })
