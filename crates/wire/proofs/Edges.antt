-- Demand 3 and what may come among and before its frames, at both ends of their range. Assumes nothing.
use mathlib.Core.Path.{◌≡◌, refl, sym, ap, ◌∙◌, subst}
use mathlib.Core.Bool.{Bool, true, ◌||◌, or-true}
use mathlib.Core.List.{List, [], ◌∷◌, ◌++◌, append-nil, append_assoc}
use Prim.Native.Nat.{ℕ, zero, suc, ◌+◌, ◌*◌, ◌≤◌, ◌<◌}
use native.Mathlib.Nat.{not-suc-le-zero, suc-mul}
use native.Mathlib.Decide.{ℕ_discrete}
use native.Mathlib.Omega.{arith}
use lib.Dec.{eqb, ltb}
use lib.ListN.{length, take, drop, replicate, length-replicate, get_or-replicate, take-append-drop}
use borrow.Author.Tests.{eq-eqb, ltb-true, ltb-false}
use Rattle.cobs.specs.Answers.{invalid_frame, bad_length, complete}
use Rattle.cobs.specs.Code.{encode}
use Rattle.marks.specs.Marks.{bit_at, marked, count_below, marked_below}
use Rattle.dec.specs.Stream as stream
use Rattle.dec.specs.Stream.{skipping, bad, byte_outcome, byte_dest, further, piece_outcome, piece_dest, push_outcome, push_dest}
use Rattle.record.specs.Frame.{is_bad_length}
use Rattle.batch.specs.State.{opened, limit, is_bad, stand_told, stands_told}
use Rattle.batch.specs.Frame.{outcome, accept_told, accept_next, accept_table}
use Rattle.dec.proofs.Cases.{by_bool}
use Rattle.wire.specs.Again as again
use Rattle.wire.specs.Again.{Said}
use Rattle.wire.specs.Loop.{received}
use Rattle.wire.specs.Receive.{Seen}
use Rattle.wire.specs.Batch.{Particle, Batch, count, weight_at, sum_below, total, InRange, Sendable, Item, particle, close, AllOf, message, Frame, Frames, has, has_close, due, expected, expected_all}
use Rattle.wire.specs.Demand3.{Begun, Premises, run}
use Rattle.wire.specs.Afterwards.{items}
use Rattle.wire.specs.Among.{ours, bytes_of, ours_in, Other, AllCame, Among}
use Rattle.wire.specs.Anew.{Anew}
use Rattle.wire.specs.Noise.{AllRefused, noise_run, Noisy}
use Rattle.wire.specs.Edges.{complete_with, heaviest, widest, numbered_from, fifteens, last_frame, beginning, stream, most, MostMet, before, crowded, late_beginning, MostAmong, nobody, closing, least_into, least, EmptyComplete, CompleteAgain, noise, refused_with, CompleteAfterNoise}
use Rattle.wire.proofs.Sums.{has_close-close}
use Rattle.wire.proofs.Demand3.{completed, demand3}
use Rattle.wire.proofs.Afterwards.{has-append}
use Rattle.wire.proofs.Among.{delivered-among}
use Rattle.wire.proofs.Anew.{after-delivery}
use Rattle.wire.proofs.Noise.{unmoved}

close-frame : (b : Batch) → Frame b (close ∷ [])
close-frame b = record { some = omega arith; most = omega arith; ours = (tt, tt) }

-- ---- nothing at all

met_into : (buffer : List ℕ) → 240 ≤ length buffer → Premises (least_into buffer)
met_into buffer h = record {
  sendable = record { numbered = omega arith; few = omega arith; ranges = λ i h. absurd (not-suc-le-zero h) };
  framing = (close-frame nobody, tt);
  begins = record { frame = close ∷ []; framing = close-frame nobody; later = encode (message nobody (close ∷ [])); front = refl };
  cut = refl;
  room = omega arith;
  slots = omega arith;
  same = λ k t. refl;
}

met-least : Premises least
met-least = met_into (replicate 240 0) (omega (arith, length-replicate {A = ℕ} 240 0))

pub empty_complete : EmptyComplete
unfolding sum_below count_below
empty_complete = record { premises = met-least; answers = (demand3 least met-least).answers }

-- nothing else comes with it
abbrev nothing_else : Among least
nothing_else =
    record {
      came = ours (close ∷ []) ∷ [];
      all = (close-frame nobody, tt);
      frames = refl;
      last = nobody;
      sendable = met-least.sendable;
      begun = [];
      begins = met-least.begins;
      pieces = closing ∷ [];
      cut = refl;
    }

pub complete-again : CompleteAgain
unfolding sum_below count_below
complete-again =
    let a : Anew (run least).side 240 = after-delivery least met-least nothing_else refl in
    let m : Premises (least_into (run least).side.buffer) = met_into (run least).side.buffer (omega (arith, a.buffer)) in
    record { premises = m; answers = a.answers (least_into (run least).side.buffer) m refl }

-- ---- the most of everything: the premises

widest-count : count widest ≡ 4096
unfolding widest
widest-count = length-replicate 4096 heaviest

heaviest_in : InRange heaviest
unfolding heaviest
heaviest_in = record { x16 = omega arith; y16 = omega arith; z16 = omega arith; light = omega arith }

heavy : (n : ℕ) → n < 65536 → Sendable (record { number = n; particles = replicate 4096 heaviest })
heavy n h = record {
  numbered = omega arith;
  few = omega (arith, length-replicate 4096 heaviest);
  ranges = λ i k. subst InRange (sym (get_or-replicate 4096 i heaviest _ (omega (arith, length-replicate 4096 heaviest)))) heaviest_in;
}

widest-sendable : Sendable widest
unfolding widest
widest-sendable = heavy 65535 (omega arith)

numbered_of : (b : Batch) (n k : ℕ) → k + n ≤ count b → AllOf b (numbered_from n k)
numbered_of b zero k h = tt
numbered_of b (suc n) k h = (omega arith, numbered_of b n (suc k) (omega arith))

fifteen_of : (b : Batch) (k : ℕ) → k + 15 ≤ count b → Frame b (numbered_from 15 k)
fifteen_of b k h = record { some = omega arith; most = omega arith; ours = numbered_of b 15 k h }

fifteen_frame : (k : ℕ) → k + 15 ≤ 4096 → Frame widest (numbered_from 15 k)
fifteen_frame k h = fifteen_of widest k (omega (arith, widest-count))

all-frames : (n k : ℕ) → k + n * 15 ≤ 4095 → Frames widest (fifteens n k ++ last_frame ∷ [])
unfolding fifteens last_frame
all-frames zero k h = (record { some = omega arith; most = omega arith; ours = (omega (arith, widest-count), (tt, tt)) }, tt)
all-frames (suc n) k h = (fifteen_frame k (omega (arith, suc-mul n 15)), all-frames n (k + 15) (omega (arith, suc-mul n 15)))

begun-at : (b : Batch) (f : List Item) → Frame b f → (n : ℕ) → Begun b (take n (encode (message b f)))
begun-at b f g n =
    record { frame = f; framing = g; later = drop n (encode (message b f)); front = take-append-drop n (encode (message b f)) }

begins : Begun widest beginning
unfolding beginning
begins = begun-at widest (numbered_from 15 0) (fifteen_frame 0 (omega arith)) 100

met : Premises most
unfolding most stream
met = record {
  sendable = widest-sendable;
  framing = all-frames 273 0 (omega arith);
  begins = begins;
  cut = ap (λ (t : List ℕ). take 1000 stream ++ t) (append-nil (drop 1000 stream)) ∙ take-append-drop 1000 stream;
  room = omega (arith, length-replicate {A = ℕ} 240 0);
  slots = omega (arith, widest-count, length-replicate {A = ℕ} 65536 0);
  same = λ k t. length-replicate (length t) _;
}

-- ---- the most of everything: what is answered

numbered-has : (n k i : ℕ) → k ≤ i → i < k + n → has i (numbered_from n k) ≡ true
numbered-has zero k i h l = absurd (omega arith)
numbered-has (suc n) k i h l =
    elim (ℕ_discrete i k) [
      | yes e ↦ rw (eq-eqb i k e)
      | no d ↦ ap (λ (t : Bool). eqb i k || t) (numbered-has n (suc k) i (omega arith) (omega arith)) ∙ or-true (eqb i k)
    ]

fifteens-has : (n k i : ℕ) → k ≤ i → i < k + n * 15 → has i (items (fifteens n k)) ≡ true
unfolding fifteens
fifteens-has zero k i h l = absurd (omega arith)
fifteens-has (suc n) k i h l =
    rw (has-append i (numbered_from 15 k) (items (fifteens n (k + 15))))
    (by_bool (ltb i (k + 15))
    (λ q. rw (numbered-has 15 k i h (ltb-true i (k + 15) q)))
    (λ q. rw (fifteens-has n (k + 15) i (ltb-false i (k + 15) q) (omega (arith, suc-mul n 15))) (or-true (has i (numbered_from 15 k)))))

abbrev arrived : List Item
arrived = items (fifteens 273 0) ++ last_frame

all-arrived : (i : ℕ) → i < 4096 → has i arrived ≡ true
unfolding last_frame
all-arrived i h =
    has-append i (items (fifteens 273 0)) last_frame
    ∙ by_bool (ltb i 4095)
    (λ q. rw (fifteens-has 273 0 i (omega arith) (omega (arith, ltb-true i 4095 q))))
    (λ q. rw (eq-eqb i 4095 (omega (arith, ltb-false i 4095 q))) (or-true (has i (items (fifteens 273 0)))))

close-arrived : has_close arrived ≡ true
unfolding last_frame
close-arrived =
    rw (← append_assoc (items (fifteens 273 0)) (particle 4095 ∷ []) (close ∷ [])) (has_close-close (items (fifteens 273 0) ++ particle 4095 ∷ []))

sum_alike : (f : ℕ → ℕ) (w n : ℕ) → ((j : ℕ) → j < n → f j ≡ w) → sum_below f n ≡ n * w
unfolding sum_below
sum_alike f w zero h = omega arith
sum_alike f w (suc n) h = omega (arith, sum_alike f w n (λ j k. h j (omega arith)), h n (omega arith), suc-mul n w)

widest-total : total widest ≡ 4096000000
unfolding widest heaviest
widest-total =
    ap (sum_below (weight_at widest)) widest-count
    ∙ sum_alike (weight_at widest) 1000000 4096 (λ j h. ap (λ (p : Particle). p.weight) (get_or-replicate 4096 j heaviest _ h))

all-due : expected widest arrived ≡ complete_with 4096000000 4096
all-due =
    let c : due widest arrived ≡ complete = (completed widest arrived).then close-arrived (λ i h. all-arrived i (omega (arith, widest-count))) in
    rw (c, (completed widest arrived).totals c, (completed widest arrived).counts c, widest-total, widest-count)

-- the last of many frames is answered by all that arrived
last-due : (b : Batch) (l : List Item) (fs : List (List Item)) (f : List Item)
    → expected_all b l (fs ++ f ∷ []) ≡ expected_all b l fs ++ expected b ((l ++ items fs) ++ f) ∷ []
last-due b l [] f = rw (append-nil l)
last-due b l (g ∷ fs) f =
    ap (λ (t : List (Said Seen)). expected b (l ++ g) ∷ t) (last-due b (l ++ g) fs f ∙ rw (append_assoc l g (items fs)))

pub most-met : MostMet
unfolding most
most-met = record {
  premises = met;
  answers =
      (demand3 most met).answers ∙ last-due widest [] (fifteens 273 0) last_frame
      ∙ ap (λ (x : Said Seen). expected_all widest [] (fifteens 273 0) ++ x ∷ []) all-due;
}

-- ---- the most of everything, and others among it

before-frame : Frame before (numbered_from 15 4081)
unfolding before
before-frame = fifteen_of (record { number = 65534; particles = replicate 4096 heaviest }) 4081 (omega (arith, length-replicate 4096 heaviest))

late-begins : Begun before late_beginning
unfolding late_beginning
late-begins = begun-at before (numbered_from 15 4081) before-frame 100

is_before : Other widest before
unfolding widest before
is_before = record { unlike = λ e. omega arith; sendable = heavy 65534 (omega arith) }

is_after : Other widest nobody
unfolding widest
is_after = record { unlike = λ e. omega arith; sendable = met-least.sendable }

crowded-came : (fs : List (List Item)) → Frames widest fs → AllCame widest (crowded fs)
unfolding crowded
crowded-came [] g = tt
crowded-came (f ∷ fs) g = (is_before, before-frame, (g.0, (is_after, close-frame nobody, crowded-came fs g.1)))

crowded-ours : (fs : List (List Item)) → ours_in (crowded fs) ≡ fs
unfolding crowded
crowded-ours [] = refl
crowded-ours (f ∷ fs) = ap (λ (t : List (List Item)). f ∷ t) (crowded-ours fs)

crowd : Among most
unfolding most
crowd = record {
  came = crowded most.frames;
  all = crowded-came most.frames met.framing;
  frames = crowded-ours most.frames;
  last = before;
  sendable = is_before.sendable;
  begun = late_beginning;
  begins = late-begins;
  pieces = (bytes_of widest (crowded most.frames) ++ late_beginning) ∷ [];
  cut = append-nil (bytes_of widest (crowded most.frames) ++ late_beginning);
}

pub most-among : MostAmong
unfolding crowd
most-among = record { among = crowd; crowd = refl; begun = refl; delivered = delivered-among most met crowd; late = refl; early = refl }

-- ---- noise before

noise-refused : (noise_run least skipping noise).said ≡ refused_with bad_length ∷ refused_with (invalid_frame 1 0) ∷ []
unfolding again.drive again.run again.run_in received bad byte_outcome byte_dest further stream.joined piece_outcome piece_dest push_outcome push_dest opened limit is_bad stand_told stands_told marked_below marked bit_at count_below is_bad_length outcome accept_told accept_next accept_table
noise-refused = refl

noisy : Noisy least nothing_else
unfolding bad
noisy = record {
  decoder = skipping;
  fit = refl;
  bytes = 5 ∷ 17 ∷ 0 ∷ 2 ∷ 17 ∷ 0 ∷ 3 ∷ 17 ∷ 0 ∷ [];
  refused = subst AllRefused (sym noise-refused) (omega arith, (omega arith, tt));
  pieces = (noise ++ closing) ∷ [];
  cut = refl;
}

pub complete-after-noise : CompleteAfterNoise
unfolding sum_below count_below noisy
complete-after-noise = (unmoved least met-least nothing_else noisy).answers ∙ ap (λ (t : List (Said Seen)). t ++ complete_with 0 0 ∷ []) noise-refused
