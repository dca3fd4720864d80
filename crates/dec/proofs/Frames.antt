-- The streaming decoder, new, over a body and its zero: the answer is `read`'s, and an encoding is decoded to its message.
-- Assumes nothing.
use Rattle.std.specs.Prelude.{if◌then◌else◌, Ok, Err}
use mathlib.Core.Path.{◌≡◌, refl, sym, ap, ◌∙◌, subst}
use mathlib.Core.Bool.{Bool, true, false}
use mathlib.Core.List.{List, [], ◌∷◌, ◌++◌, append-nil}
use Prim.Native.Nat.{ℕ, zero, suc, ◌+◌, ◌≤◌, ◌<◌, zero-le}
use native.Mathlib.Nat.{add-zero, add-suc, suc-add, zero-add, not-suc-le-zero, le_of_suc-le-suc}
use native.Mathlib.Omega.{arith}
use lib.Dec.{ltb}
use lib.ListN.{length, set, length-set}
use lib.Seq.{set_out}
use borrow.Author.Tests.{lt-ltb, ltb-true, ltb-false}
use Rattle.cobs.specs.Code.{NoZero, encode, read, over}
use Rattle.cobs.specs.Answers.{done, invalid_frame, target_buf_too_small}
use Rattle.cobs.proofs.Encoding.{encode_no_zero, encode_nonempty}
use Rattle.cobs.proofs.Reading.{read-encode}
use Rattle.dec.specs.State.{Given, stepped}
use Rattle.dec.specs.Stream.{at, new, skipping, Outcome, goes, stops, is_more, result_outcome, byte_outcome, result_dest, byte_dest, further, joined, piece_outcome, piece_dest, push_outcome, push_dest}
use Rattle.dec.specs.declared.state.DecoderState.{DecoderState}
use Rattle.dec.specs.declared.state.DecoderState.TheVariants.{Idle}
use Rattle.dec.specs.declared.state.DecodeResult.TheVariants.{NoData, DataStart, DataComplete, DataContinue}
use Rattle.dec.proofs.Cases.{by_bool}
use Rattle.dec.proofs.Good.{new-good}
use Rattle.dec.proofs.Pieces.{push_piece, push_dest_piece}
use Rattle.dec.proofs.Bare.{End, going, whole, early, Run, after, onward, run, bytes, body_run, run-body}

-- ---- where the bytes of a run have room

-- What a run that starts at a place comes to.
abbrev ended : End → (place : ℕ) → Run → Outcome
ended going p r = goes (at (p + length r.out) r.state)
ended whole p r = stops new (done (p + length r.out) r.took)
ended early p r = stops new (invalid_frame (p + length r.out) r.took)

abbrev pub ran : (place : ℕ) → Run → Outcome
ran p r = ended r.end p r

one_more : (n : ℕ) → 1 + n ≡ suc n
one_more n = omega arith

quiet : (e : End) (p : ℕ) (r : Run) → further 1 (ended e p r) ≡ ended e p (after [] r)
unfolding further
quiet going p r = refl
quiet whole p r = rw (one_more r.took)
quiet early p r = rw (one_more r.took)

loud : (e : End) (p b : ℕ) (r : Run) → further 1 (ended e (suc p) r) ≡ ended e p (after (b ∷ []) r)
unfolding further
loud going p b r = rw (suc-add p (length r.out), add-suc p (length r.out))
loud whole p b r = rw (one_more r.took, suc-add p (length r.out), add-suc p (length r.out))
loud early p b r = rw (one_more r.took, suc-add p (length r.out), add-suc p (length r.out))

-- a byte that gives e, and the rest from state s on
abbrev Rest : (room p : ℕ) → Given → DecoderState → List ℕ → Outcome
Rest room p e s u = joined (result_outcome p room s e) 1 (piece_outcome (result_outcome p room s e).next room u)

fits-step : (room p : ℕ) (e : Given) (s : DecoderState) (u : List ℕ)
    → ((p : ℕ) → p + length (run s u).out ≤ room → piece_outcome (at p s) room u ≡ ran p (run s u))
    → p + length (onward e (run s u)).out ≤ room → Rest room p e s u ≡ ran p (onward e (run s u))
unfolding joined
fits-step room p (Ok NoData) s u ih h = rw (ih p h) (quiet (run s u).end p (run s u))
fits-step room p (Ok DataStart) s u ih h = rw (ih p h) (quiet (run s u).end p (run s u))
fits-step room p (Ok DataComplete) s u ih h = rw (add-zero p)
fits-step room p (Err _) s u ih h = rw (add-zero p)
fits-step room p (Ok (DataContinue b)) s u ih h =
    let l : ltb p room ≡ true = lt-ltb p room (omega arith) in
    rw (l, ih (suc p) (omega arith)) (loud (run s u).end p b (run s u))

pub piece_fits : (u : List ℕ) (s : DecoderState) (room p : ℕ) → p + length (run s u).out ≤ room → piece_outcome (at p s) room u ≡ ran p (run s u)
unfolding piece_outcome byte_outcome run
piece_fits [] s room p h = rw (add-zero p)
piece_fits (b ∷ u) s room p h = fits-step room p (stepped s b).result (stepped s b).state u (piece_fits u (stepped s b).state room) h

-- ---- where they have not

abbrev Small : Outcome → Type 0
Small o = (k : ℕ) × (o ≡ stops skipping (target_buf_too_small k))

small-on : (o : Outcome) → Small o → Small (further 1 o)
unfolding further
small-on o w = (1 + w.0, rw w.1)

small-step : (room p : ℕ) (e : Given) (s : DecoderState) (u : List ℕ)
    → ((p : ℕ) → p ≤ room → room < p + length (run s u).out → Small (piece_outcome (at p s) room u))
    → p ≤ room → room < p + length (onward e (run s u)).out → Small (Rest room p e s u)
unfolding joined
small-step room p (Ok NoData) s u ih l h = small-on (piece_outcome (at p s) room u) (ih p l h)
small-step room p (Ok DataStart) s u ih l h = small-on (piece_outcome (at p s) room u) (ih p l h)
small-step room p (Ok DataComplete) s u ih l h = absurd (omega arith)
small-step room p (Err _) s u ih l h = absurd (omega arith)
small-step room p (Ok (DataContinue b)) s u ih l h =
    by_bool (ltb p room)
    (λ q. rw q (small-on (piece_outcome (at (suc p) s) room u) (ih (suc p) (ltb-true p room q) (omega arith))))
    (λ q. rw q (1, refl))

pub piece_small : (u : List ℕ) (s : DecoderState) (room p : ℕ) → p ≤ room → room < p + length (run s u).out → Small (piece_outcome (at p s) room u)
unfolding piece_outcome byte_outcome run
piece_small [] s room p l h = absurd (omega arith)
piece_small (b ∷ u) s room p l h = small-step room p (stepped s b).result (stepped s b).state u (piece_small u (stepped s b).state room) l h

-- ---- the destination

-- The bytes s laid over a buffer from a place on.
abbrev over_at : (place : ℕ) (s d : List ℕ) → List ℕ
over_at zero s d = over s d
over_at (suc p) s [] = []
over_at (suc p) s (x ∷ d) = x ∷ over_at p s d

over_at-set : (p b : ℕ) (s d : List ℕ) → over_at (suc p) s (set d p b) ≡ over_at p (b ∷ s) d
over_at-set zero b s [] = refl
over_at-set zero b s (x ∷ d) = refl
over_at-set (suc p) b s [] = refl
over_at-set (suc p) b s (x ∷ d) = ap (λ (t : List ℕ). x ∷ t) (over_at-set p b s d)

over_at-none : (p : ℕ) (d : List ℕ) → over_at p [] d ≡ d
over_at-none zero d = refl
over_at-none (suc p) [] = refl
over_at-none (suc p) (x ∷ d) = ap (λ (t : List ℕ). x ∷ t) (over_at-none p d)

over_at-out : (p : ℕ) (s d : List ℕ) → length d ≤ p → over_at p s d ≡ d
over_at-out zero [] d h = refl
over_at-out zero (b ∷ s) [] h = refl
over_at-out zero (b ∷ s) (x ∷ d) h = absurd (not-suc-le-zero h)
over_at-out (suc p) s [] h = refl
over_at-out (suc p) s (x ∷ d) h = ap (λ (t : List ℕ). x ∷ t) (over_at-out p s d (le_of_suc-le-suc h))

dest-step : (room p : ℕ) (e : Given) (s : DecoderState) (u d : List ℕ)
    → ((p : ℕ) (d : List ℕ) → length d ≡ room → piece_dest (at p s) room u d ≡ over_at p (run s u).out d) → length d ≡ room
    → (if is_more (result_outcome p room s e) then piece_dest (result_outcome p room s e).next room u (result_dest p e d) else result_dest p e d)
    ≡ over_at p (onward e (run s u)).out d
dest-step room p (Ok NoData) s u d ih l = ih p d l
dest-step room p (Ok DataStart) s u d ih l = ih p d l
dest-step room p (Ok DataComplete) s u d ih l = sym (over_at-none p d)
dest-step room p (Err _) s u d ih l = sym (over_at-none p d)
dest-step room p (Ok (DataContinue b)) s u d ih l =
    by_bool (ltb p room)
    (λ q. rw q (ih (suc p) (set d p b) (length-set d p b ∙ l) ∙ over_at-set p b (run s u).out d))
    (λ q.
    let k : length d ≤ p = subst (λ (n : ℕ). n ≤ p) (sym l) (ltb-false p room q) in
    rw q (set_out d p b k ∙ sym (over_at-out p (b ∷ (run s u).out) d k)))

pub piece-dest : (u : List ℕ) (s : DecoderState) (room p : ℕ) (d : List ℕ) → length d ≡ room → piece_dest (at p s) room u d ≡ over_at p (run s u).out d
unfolding piece_dest byte_outcome byte_dest run
piece-dest [] s room p d l = sym (over_at-none p d)
piece-dest (b ∷ u) s room p d l = dest-step room p (stepped s b).result (stepped s b).state u d (piece-dest u (stepped s b).state room) l

-- ---- a new decoder over bytes whose run is known

module _ (u : List ℕ) (r : Run) (e : run Idle u ≡ r) where
  pub new-fits : (room : ℕ) → length r.out ≤ room → push_outcome new room u ≡ ran 0 r
  new-fits room h = push_piece new room (new-good room) u ∙ piece_fits u Idle room 0 (rw e (omega arith)) ∙ ap (ran 0) e

  pub new-small : (room : ℕ) → room < length r.out → (k : ℕ) × (push_outcome new room u ≡ stops skipping (target_buf_too_small k))
  new-small room h =
      let w = piece_small u Idle room 0 zero-le (rw e (omega arith)) in
      (w.0, push_piece new room (new-good room) u ∙ w.1)

  pub new-dest : (d : List ℕ) → push_dest new u d ≡ over r.out d
  new-dest d = push_dest_piece new u d (new-good (length d)) ∙ piece-dest u Idle (length d) 0 d refl ∙ ap (λ (x : Run). over x.out d) e

-- ---- a body and its zero: what `read` says, used up to the zero, and new again

abbrev pub frame : (is_whole : Bool) (size used : ℕ) → Outcome
frame is_whole size used = stops new (if is_whole then done size used else invalid_frame size used)

pub ran-body : (t : Bool) (s : List ℕ) (n : ℕ)
    → ran 0 (record { end = if t then whole else early; out = s; took = n; state = Idle }) ≡ frame t (length s) n
ran-body true s n = rw (zero-add (length s))
ran-body false s n = rw (zero-add (length s))

module _ (b t : List ℕ) (h : NoZero b) (k : 0 < length b) where
  pub push-body : (room : ℕ) → length (bytes (read b)) ≤ room
      → push_outcome new room (b ++ 0 ∷ t) ≡ frame (read b).whole (length (bytes (read b))) (suc (length b))
  push-body room l = new-fits (b ++ 0 ∷ t) (body_run b) (run-body b t h k) room l ∙ ran-body (read b).whole (bytes (read b)) (suc (length b))

  pub push_dest-body : (d : List ℕ) → push_dest new (b ++ 0 ∷ t) d ≡ over (bytes (read b)) d
  push_dest-body d = new-dest (b ++ 0 ∷ t) (body_run b) (run-body b t h k) d

-- ---- an encoding, its zero, and anything: the message

pub push-encode : (m t : List ℕ) (room : ℕ) → length m ≤ room → push_outcome new room (encode m ++ 0 ∷ t) ≡ stops new (done (length m) (length (encode m) + 1))
push-encode m t room l =
    push-body (encode m) t (encode_no_zero m) (encode_nonempty m) room (rw (read-encode m, append-nil m) l)
    ∙ rw (read-encode m, append-nil m) (ap (λ (n : ℕ). stops new (done (length m) n)) (omega arith))

pub push_dest-encode : (m t d : List ℕ) → push_dest new (encode m ++ 0 ∷ t) d ≡ over m d
push_dest-encode m t d = push_dest-body (encode m) t (encode_no_zero m) (encode_nonempty m) d ∙ rw (read-encode m, append-nil m)
