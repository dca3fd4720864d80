-- The state alone over a run of bytes, as if the room had no end: over a body and its zero it gives what `read` says. Assumes nothing.
use Rattle.std.specs.Prelude.{if◌then◌else◌, Ok, Err}
use mathlib.Core.Path.{◌≡◌, refl, sym, ap, ap₂, ◌∙◌}
use mathlib.Core.Bool.{Bool, true, false}
use mathlib.Core.List.{List, [], ◌∷◌, ◌++◌, append-nil, append_assoc}
use Prim.Native.Nat.{ℕ, zero, suc, pred, ◌+◌, ◌-◌, ◌<◌, zero-le, suc-le-suc}
use native.Mathlib.Nat.{not-suc-le-zero, zero-add, suc-add, add-zero}
use native.Mathlib.Numerals.{add-one}
use native.Mathlib.Omega.{arith}
use lib.Dec.{eqb}
use lib.ListN.{length, length-append}
use Rattle.cobs.specs.Code.{NoZero, Reading, zero_after, read}
use Rattle.cobs.proofs.Runs.{no_zero_front, no_zero_back}
use Rattle.cobs.proofs.Reading.{by_codes, read_short, read-last, read_more}
use Rattle.dec.specs.Helpers.{group}
use Rattle.dec.specs.State.{Given, stepped}
use Rattle.dec.specs.declared.state.DecoderState.{DecoderState}
use Rattle.dec.specs.declared.state.DecoderState.TheVariants.{Idle, Grab, GrabChain}
use Rattle.dec.specs.declared.state.DecodeResult.TheVariants.{NoData, DataStart, DataComplete, DataContinue}
use Rattle.dec.proofs.Steps.{opened-group}

-- The run goes on; a zero ended its frame; a zero was early.
pub data End : Type 0 where
  going whole early : End

-- How a run ended, the bytes it gave, how many it took, and the state after it.
pub record Run : Type 0 where
  pub end : End
  pub out : List ℕ
  pub took : ℕ
  pub state : DecoderState

-- One byte more in front, which gives the bytes s.
abbrev pub after : List ℕ → Run → Run
after s r = record { end = r.end; out = s ++ r.out; took = suc r.took; state = r.state }

abbrev pub onward : Given → Run → Run
onward (Ok NoData) r = after [] r
onward (Ok DataStart) r = after [] r
onward (Ok (DataContinue b)) r = after (b ∷ []) r
onward (Ok DataComplete) r = record { end = whole; out = []; took = 1; state = Idle }
onward (Err e) r = record { end = early; out = []; took = 1; state = Idle }

unfoldable pub run : DecoderState → List ℕ → Run
run s [] = record { end = going; out = []; took = 0; state = s }
run s (b ∷ bs) = onward (stepped s b).result (run (stepped s b).state bs)

-- ---- the bytes of a group

-- bytes given in front
abbrev ahead : List ℕ → Run → Run
ahead s r = record { end = r.end; out = s ++ r.out; took = length s + r.took; state = r.state }

grabs : (full : Bool) (s : List ℕ) (left : ℕ) (u : List ℕ) → NoZero s → run (group full (length s + left)) (s ++ u) ≡ ahead s (run (group full left) u)
unfolding run
grabs full [] left u h = rw (zero-add left, zero-add (run (group full left) u).took)
grabs full (zero ∷ s) left u h = absurd (not-suc-le-zero h.0)
grabs true (suc b ∷ s) left u h = rw (suc-add (length s) left, grabs true s left u h.1, suc-add (length s) (run (GrabChain left) u).took)
grabs false (suc b ∷ s) left u h = rw (suc-add (length s) left, grabs false s left u h.1, suc-add (length s) (run (Grab left) u).took)

short-run : (full : Bool) (left : ℕ) (s t : List ℕ) → length s < left → NoZero s
    → run (group full left) (s ++ 0 ∷ t) ≡ record { end = early; out = s; took = length s + 1; state = Idle }
unfolding run
short-run full left s t l h =
    let e : left ≡ length s + suc (left - suc (length s)) = omega arith in
    ap (λ (n : ℕ). run (group full n) (s ++ 0 ∷ t)) e ∙ grabs full s (suc (left - suc (length s))) (0 ∷ t) h ∙ go full
  where
    go : (full : Bool) → ahead s (run (group full (suc (left - suc (length s)))) (0 ∷ t)) ≡ record { end = early; out = s; took = length s + 1; state = Idle }
    go true = rw (append-nil s)
    go false = rw (append-nil s)

last-run : (full : Bool) (s t : List ℕ) → NoZero s
    → run (group full (length s)) (s ++ 0 ∷ t) ≡ record { end = whole; out = s; took = length s + 1; state = Idle }
unfolding run
last-run full s t h =
    ap (λ (n : ℕ). run (group full n) (s ++ 0 ∷ t)) (sym (add-zero (length s))) ∙ grabs full s 0 (0 ∷ t) h ∙ go full
  where
    go : (full : Bool) → ahead s (run (group full 0) (0 ∷ t)) ≡ record { end = whole; out = s; took = length s + 1; state = Idle }
    go true = rw (append-nil s)
    go false = rw (append-nil s)

-- ---- a code after a group: as from the start, with the zero that the group calls for

zero_if : (full : Bool) → List ℕ
zero_if full = if full then [] else 0 ∷ []

reopen : (full : Bool) (c : ℕ) (u : List ℕ) → 0 < c
    → run (group full 0) (c ∷ u) ≡ record { end = (run Idle (c ∷ u)).end; out = zero_if full ++ (run Idle (c ∷ u)).out; took = (run Idle (c ∷ u)).took; state = (run Idle (c ∷ u)).state }
unfolding run zero_if
reopen full zero u h = absurd (not-suc-le-zero h)
reopen true (suc n) u h = refl
reopen false (suc n) u h = refl

more-run : (full : Bool) (s : List ℕ) (c : ℕ) (u : List ℕ) (w : Run) → NoZero s → 0 < c → run Idle (c ∷ u) ≡ w
    → run (group full (length s)) (s ++ c ∷ u) ≡ record { end = w.end; out = (s ++ zero_if full) ++ w.out; took = length s + w.took; state = w.state }
more-run full s c u w h k e =
    ap (λ (n : ℕ). run (group full n) (s ++ c ∷ u)) (sym (add-zero (length s)))
    ∙ grabs full s 0 (c ∷ u) h
    ∙ ap (ahead s) (reopen full c u k ∙ ap (λ (r : Run). record { end = r.end; out = zero_if full ++ r.out; took = r.took; state = r.state }) e)
    ∙ rw (append_assoc s (zero_if full) w.out)

-- ---- a body and its zero

-- All bytes of a reading, one by one.
abbrev pub bytes : Reading → List ℕ
bytes r = r.groups ++ r.short

abbrev pub body_run : List ℕ → Run
body_run b = record { end = if (read b).whole then whole else early; out = bytes (read b); took = suc (length b); state = Idle }

abbrev Claim : List ℕ → List ℕ → Type 0
Claim t b = NoZero b → 0 < length b → run Idle (b ++ 0 ∷ t) ≡ body_run b

-- the code opens a group
open-run : (c : ℕ) (s t : List ℕ) → 0 < c → run Idle ((c ∷ s) ++ 0 ∷ t) ≡ after [] (run (group (eqb c 255) (pred c)) (s ++ 0 ∷ t))
unfolding run
open-run zero s t h = absurd (not-suc-le-zero h)
open-run (suc n) s t h = ap (λ (x : DecoderState). after [] (run x (s ++ 0 ∷ t))) (opened-group (suc n))

claim-short : (t : List ℕ) (c : ℕ) (s : List ℕ) → length s < pred c → Claim t (c ∷ s)
claim-short t c s l h k =
    open-run c s t h.0 ∙ ap (after []) (short-run (eqb c 255) (pred c) s t l h.1) ∙ rw (read_short c s l, add-one (length s))

claim-last : (t : List ℕ) (c : ℕ) (r : List ℕ) → length r ≡ pred c → Claim t (c ∷ r)
claim-last t c r l h k =
    open-run c r t h.0
    ∙ ap (λ (n : ℕ). after [] (run (group (eqb c 255) n) (r ++ 0 ∷ t))) (sym l)
    ∙ ap (after []) (last-run (eqb c 255) r t h.1)
    ∙ rw (read-last c r l, add-one (length r), append-nil r)

claim-more : (t : List ℕ) (c : ℕ) (r : List ℕ) → length r ≡ pred c → (d : ℕ) (s : List ℕ) → Claim t (d ∷ s) → Claim t (c ∷ (r ++ d ∷ s))
unfolding zero_if
claim-more t c r l d s ih h k =
    let nz : NoZero (d ∷ s) = no_zero_back r (d ∷ s) h.1 in
    let n : length r + suc (length (d ∷ s)) ≡ suc (length (r ++ d ∷ s)) = omega (arith, length-append r (d ∷ s)) in
    open-run c (r ++ d ∷ s) t h.0
    ∙ ap (after [])
    (ap₂ (λ (j : ℕ) (u : List ℕ). run (group (eqb c 255) j) u) (sym l) (append_assoc r (d ∷ s) (0 ∷ t))
    ∙ more-run (eqb c 255) r d (s ++ 0 ∷ t) (body_run (d ∷ s)) (no_zero_front r (d ∷ s) h.1) nz.0 (ih nz (suc-le-suc zero-le)))
    ∙ rw (read_more c r l d s, n, append_assoc (r ++ zero_after c) (read (d ∷ s)).groups (read (d ∷ s)).short)

-- from idle: what `read` says, taken up to the zero, and idle again
pub run-body : (b t : List ℕ) → NoZero b → 0 < length b → run Idle (b ++ 0 ∷ t) ≡ body_run b
run-body b t = by_codes (Claim t) (λ h k. absurd (not-suc-le-zero k)) (claim-short t) (claim-last t) (claim-more t) b
