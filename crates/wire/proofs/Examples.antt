-- The theorem is not empty: a batch of two particles over a wire that reorders, repeats and cuts, run by computation through the
-- definitions to Complete; and one whose close is lost, which stays Open. Assumes nothing.
use mathlib.Core.Path.{◌≡◌, refl, sym, ap, ◌∙◌}
use mathlib.Core.List.{List, [], ◌∷◌, ◌++◌, append-nil}
use Prim.Native.Nat.{ℕ, zero, suc, ◌<◌}
use native.Mathlib.Omega.{arith}
use lib.IntN.{pos, negsuc}
use lib.ListN.{take, drop, replicate, take-append-drop}
use Rattle.cobs.specs.Answers.{Told, still_open, missing, complete}
use Rattle.marks.specs.Marks.{bit_at, with_bit, marked, set_mark, count_below, marked_below}
use Rattle.cobs.specs.Code.{encode, encode_in}
use Rattle.blocks.specs.Blocks.{copied}
use Rattle.dec.specs.Stream as stream
use Rattle.dec.specs.Stream.{bad, byte_outcome, byte_dest, further, piece_outcome, piece_dest, push_outcome, push_dest}
use Rattle.record.specs.Record.{fields_of, bytes_of, fields_for, record_in, is_valid, write_told, written_bytes, is_record, read_of, class_of}
use Rattle.record.specs.Frame.{is_bad_length}
use Rattle.batch.specs.State.{opened, limit, is_bad, stand_told, stands_told}
use Rattle.batch.specs.Verdict.{on_particle, on_close, on_read, verdict, after, stored}
use Rattle.batch.specs.Frame.{take_all, outcome, accept_told, accept_next, accept_table}
use Rattle.wire.specs.Again as again
use Rattle.wire.specs.Again.{Said, joined}
use Rattle.wire.specs.Loop.{received, framed}
use Rattle.wire.specs.Receive.{Seen}
use Rattle.wire.specs.Batch.{Batch, particle_at, sum_below, InRange, Item, particle, close, message, messages, Frame, Frames}
use Rattle.wire.specs.Demand3.{Delivery, Premises, run}
use Rattle.wire.proofs.Demand3.{demand3}

pub two : Batch
two = record {
  number = 7;
  particles = record { x = negsuc 0; y = pos 0; z = pos 64; weight = 1000 } ∷ record { x = pos 1; y = pos 2; z = pos 3; weight = 250 } ∷ [];
}

-- particle 1 first, then the close with particle 1 again, then particle 1 once more, and at last particle 0
pub came : List (List Item)
came = (particle 1 ∷ []) ∷ (close ∷ particle 1 ∷ []) ∷ (particle 1 ∷ []) ∷ (particle 0 ∷ []) ∷ []

-- the same without its close
pub lost : List (List Item)
lost = (particle 1 ∷ []) ∷ (particle 1 ∷ []) ∷ (particle 0 ∷ []) ∷ []

-- cut inside the first frame and inside the second, with an empty piece between
pub cutting : List ℕ → List (List ℕ)
cutting s = take 5 s ∷ [] ∷ take 40 (drop 5 s) ∷ drop 40 (drop 5 s) ∷ []

pub delivery : List (List Item) → Delivery
delivery fs = record {
  batch = two;
  frames = fs;
  begun = [];
  pieces = cutting (framed (messages two fs));
  buffer = replicate 240 0;
  table = replicate 32 0;
  handed = λ k t. t;
}

-- ---- the premises are met

ranged : (i : ℕ) → i < 2 → InRange (particle_at two i)
unfolding two
ranged zero h = record { x16 = omega arith; y16 = omega arith; z16 = omega arith; light = omega arith }
ranged (suc zero) h = record { x16 = omega arith; y16 = omega arith; z16 = omega arith; light = omega arith }
ranged (suc (suc i)) h = absurd (omega arith)

rejoined : (s : List ℕ) → joined (cutting s) ≡ s ++ []
unfolding cutting
rejoined s =
    ap (λ (t : List ℕ). take 5 s ++ t) (ap (λ (t : List ℕ). take 40 (drop 5 s) ++ t) (append-nil (drop 40 (drop 5 s))) ∙ take-append-drop 40 (drop 5 s))
    ∙ take-append-drop 5 s ∙ sym (append-nil s)

-- of the first delivery, and of the one whose close is lost
met : (fs : List (List Item)) → Frames two fs → Premises (delivery fs)
unfolding two delivery
met fs h = record {
  sendable = record { numbered = omega arith; few = omega arith; ranges = ranged };
  framing = h;
  begins = record { frame = close ∷ []; framing = record { some = omega arith; most = omega arith; ours = (tt, tt) }; later = encode (message two (close ∷ [])); front = refl };
  cut = rejoined (framed (messages two fs));
  room = omega arith;
  slots = omega arith;
  same = λ k t. refl;
}

framing-came : Frames two came
unfolding two came
framing-came = (one (omega arith), (both, (one (omega arith), (one (omega arith), tt))))
  where
    one : {i : ℕ} → i < 2 → Frame two (particle i ∷ [])
    one h = record { some = omega arith; most = omega arith; ours = (h, tt) }

    both : Frame two (close ∷ particle 1 ∷ [])
    both = record { some = omega arith; most = omega arith; ours = (tt, (omega arith, tt)) }

framing-lost : Frames two lost
unfolding two lost
framing-lost = (one (omega arith), (one (omega arith), (one (omega arith), tt)))
  where
    one : {i : ℕ} → i < 2 → Frame two (particle i ∷ [])
    one h = record { some = omega arith; most = omega arith; ours = (h, tt) }

-- ---- what is answered

abbrev seen : (answer : Told) (total marked : ℕ) → Said Seen
seen t total marked = record { answer = t; shown = record { total = total; marked = marked; stands = t } }

-- Open, then one missing, then still one, then Complete, with the whole weight
pub to_complete : (run (delivery came)).said ≡ seen still_open 250 1 ∷ seen (missing 1) 250 1 ∷ seen (missing 1) 250 1 ∷ seen complete 1250 2 ∷ []
unfolding two came sum_below count_below delivery
to_complete = (demand3 (delivery came) (met came framing-came)).answers

-- all particles arrived, and it stays Open
pub stays_open : (run (delivery lost)).said ≡ seen still_open 250 1 ∷ seen still_open 250 1 ∷ seen still_open 1250 2 ∷ []
unfolding two lost sum_below count_below delivery
stays_open = (demand3 (delivery lost) (met lost framing-lost)).answers

-- the same, computed through the definitions alone
pub computed : (run (delivery came)).said ≡ seen still_open 250 1 ∷ seen (missing 1) 250 1 ∷ seen (missing 1) 250 1 ∷ seen complete 1250 2 ∷ []
unfolding two came cutting delivery again.drive again.run again.run_in received encode encode_in message sum_below count_below bad byte_outcome byte_dest further stream.joined piece_outcome piece_dest push_outcome push_dest opened limit is_bad stand_told stands_told marked_below marked bit_at with_bit set_mark is_bad_length fields_of bytes_of fields_for record_in is_valid write_told written_bytes is_record read_of class_of on_particle on_close on_read verdict after stored take_all outcome accept_told accept_next accept_table copied
computed = refl
