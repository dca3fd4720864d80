-- Demand 3 of the loop over the C calls: each call is `receive` on the states that the numbers name, and leaves the numbers of
-- the states that it left. Assumes nothing.
use Rattle.std.specs.Prelude.{Option, Some, None}
use mathlib.Core.Path.{◌≡◌, refl, ap, ◌∙◌}
use mathlib.Core.Bool.{true, false}
use mathlib.Core.List.{List, [], ◌∷◌}
use Prim.Native.Nat.{ℕ, ◌<◌}
use native.Mathlib.Omega.{arith}
use lib.Dec.{eqb, ltb}
use lib.ListN.{length}
use borrow.Author.Tests.{eq-eqb}
use Rattle.cobs.specs.Code.{Bytes}
use Rattle.cobs.proofs.Runs.{each-front, each_back}
use Rattle.cobs.proofs.Wide.{bytes_drop, bytes-zeros}
use Rattle.dec.proofs.Cases.{by_bool}
use Rattle.batch.specs.State.{stand_by, stand_told, stands_told, opened}
use Rattle.batch.proofs.Good.{open-good}
use Rattle.batch.specs.declared.Close.{Close}
use Rattle.wire.specs.Again.{joined}
use Rattle.wire.specs.Loop as loop
use Rattle.wire.specs.Loop.{Side, called, seen}
use Rattle.wire.specs.Receive.{End, accepting}
use Rattle.wire.specs.Call.{wire_of}
use Rattle.wire.specs.Demand3 as wire
use Rattle.wire.specs.Demand3.{Delivery, Premises, started, hand}
use Rattle.wire.proofs.Again.{Same, AlikeTo, Each, drive-same}
use Rattle.wire.proofs.Loop as over
use Rattle.wire.proofs.Accepting.{Fine, fit, keeps}
use Rattle.wire.proofs.Wide.{delivered-bytes}
use Rattle.wire.specs.Edges.{least, most}
use Rattle.wire.proofs.Demand3.{demand3}
use Rattle.wire.proofs.Edges.{empty_complete, most-met}
use Rattle.dec.proofs.Good.{new-good}
use Rattle.numbers.specs.Numbers.{numbers_of, wire_in, names, written_to}
use Rattle.numbers.proofs.Naming.{own_back, own_named}
use Rattle.numbers.proofs.Within.{Within, within-fits, received-within}
use Rattle.capi.specs.Stream.{open_state, receive_told, receive_consumed, receive_state, receive_buffer, receive_table, state_told, state_total}
use Rattle.capi.specs.Delivery.{Lent, opens, receives, hand_over, shows, run, Lends, Demand3, Ends}

-- ---- what is lent, and the side that it stands for

pub record Like (l : Lent) (s : Side End) : Type 0 where
  pub numbers : l.numbers ≡ numbers_of (wire_of s)
  pub buffer : l.buffer ≡ s.buffer
  pub table : l.table ≡ s.state.table
  pub within : Within (wire_of s)
  pub bytes : Bytes s.buffer
  pub good : over.Good accepting Fine fit keeps s

module _ (l : Lent) (s : Side End) (h : Like l s) where
  named : names l.numbers ≡ true
  named = ap names h.numbers ∙ own_named (wire_of s) (within-fits (wire_of s) h.within) h.within.words

  wire_is : wire_in l.numbers ≡ wire_of s
  wire_is = ap wire_in h.numbers ∙ own_back (wire_of s) (within-fits (wire_of s) h.within)

-- ---- one call

-- a call on a side within its types leaves one, whose numbers are those that are left
receive_like : (l : Lent) (s : Side End) → Like l s → (p : List ℕ) → Bytes p → Same Like (receives l p) (loop.received accepting s p)
unfolding receive_told receive_consumed receive_state receive_buffer receive_table
receive_like l s h p b =
    let kept = received-within (wire_of s) h.within s.buffer s.state.table p h.bytes b in
    rw (named l s h, wire_is l s h, h.buffer, h.table)
    (record {
      answers = refl;
      takings = refl;
      sides = record {
        numbers = refl;
        buffer = refl;
        table = refl;
        within = kept.states;
        bytes = kept.bytes;
        good = over.received-good accepting Fine fit keeps s h.good p;
      };
    })

-- how a batch stands is never a BadState by itself
stands-told : (marked sum : ℕ) (c : Option Close) → eqb (stand_by marked sum c).number 6 ≡ false
stands-told m t None = refl
stands-told m t (Some c) =
    by_bool (ltb m c.count) (λ q. rw q refl) (λ q. by_bool (eqb t c.total) (λ p. rw (q, p) refl) (λ p. rw (q, p) refl))

shown_like : (l : Lent) (s : Side End) → Like l s → shows l ≡ accepting.shows s.state
unfolding state_told state_total stands_told stand_told
shown_like l s h =
    let r = s.state.receiver in
    rw (named l s h, wire_is l s h, h.table, fit s.state h.good.taking, stands-told _ r.total r.close) refl

-- ---- the loop

each-bytes : (ps : List (List ℕ)) → Bytes (joined ps) → Each Bytes ps
each-bytes [] h = tt
each-bytes (p ∷ ps) h = (each-front (λ b. b < 256) p (joined ps) h, each-bytes ps (each_back (λ b. b < 256) p (joined ps) h))

module _ (ns : List ℕ) (d : Delivery) (p : Premises d) (c : Lends ns d) where
  open_like : Like (opens ns d) (started d)
  unfolding open_state written_to Fine opened
  open_like =
      let good = open-good d.batch.number (length d.table) in
      record {
        numbers = rw (eq-eqb (length ns) 74 c.long) refl;
        buffer = refl;
        table = refl;
        within = record { left = omega arith; total = omega arith; closed = omega arith; batch = p.sendable.numbered; words = good.words };
        bytes = c.buffer;
        good = record { decoding = new-good (length d.buffer); taking = good };
      }

  -- what the caller does to the table is not seen
  handed_like : (k : ℕ) (l : Lent) (s : Side End) → Like l s
      → Like (hand_over d k l) (record { decoder = s.decoder; buffer = s.buffer; state = hand d k s.state })
  unfolding Fine
  handed_like k l s h = record {
    numbers = h.numbers;
    buffer = h.buffer;
    table = ap (d.handed k) h.table;
    within = h.within;
    bytes = h.bytes;
    good = record { decoding = h.good.decoding; taking = rw (p.same k s.state.table) h.good.taking };
  }

  -- The loop over the C calls says what the loop over `receive` says, and its numbers are those of the states which that leaves.
  pub run_like : AlikeTo Like (run ns d) (wire.run d)
  run_like =
      drive-same Like Bytes (λ q n b. bytes_drop q n b) (λ k l q. receives (hand_over d k l) q) (called accepting (hand d))
      (λ k l s h q b. receive_like (hand_over d k l) (record { decoder = s.decoder; buffer = s.buffer; state = hand d k s.state }) (handed_like k l s h) q b)
      shows (seen accepting (hand d)) shown_like d.pieces (each-bytes d.pieces (delivered-bytes d p)) 0 (opens ns d) (started d) open_like

  pub demand3_in_c : Demand3 ns d
  demand3_in_c = record { answers = run_like.said ∙ (demand3 d p).answers; completes = (demand3 d p).completes }

-- ---- at both ends

module _ (ns : List ℕ) (long : length ns ≡ 74) where
  lends_most : Lends ns most
  unfolding most
  lends_most = record { long = long; buffer = bytes-zeros 240 }

  pub ends_in_c : Ends ns
  ends_in_c = record {
    least = (run_like ns least empty_complete.premises (record { long = long; buffer = bytes-zeros 240 })).said ∙ empty_complete.answers;
    most = (run_like ns most most-met.premises lends_most).said ∙ most-met.answers;
  }
