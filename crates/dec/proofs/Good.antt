-- Good states: what the test of BadState comes to, and that no call leads from a good state to a bad one. Assumes nothing.
use Rattle.std.specs.Prelude.{if◌then◌else◌, Ok}
use mathlib.Core.Path.{◌≡◌, refl, sym, ◌∙◌}
use mathlib.Core.Bool.{Bool, true, false, not, ◌&&◌, ◌||◌, false≢true}
use mathlib.Core.List.{List, [], ◌∷◌}
use Prim.Native.Nat.{ℕ, zero, suc, ◌≤◌, ◌<◌, zero-le}
use native.Mathlib.Omega.{arith}
use lib.Dec.{eqb, ltb}
use borrow.Author.Tests.{lt-ltb, le-ltb, ltb-true, ltb-false}
use Rattle.dec.specs.State.{opened, at_zero, stepped}
use Rattle.dec.specs.Stream.{at, new, skipping, is_idle, bad, Outcome, goes, is_more, result_outcome, byte_outcome, further, joined, piece_outcome, push_outcome}
use Rattle.dec.specs.declared.state.DecoderState.{DecoderState}
use Rattle.dec.specs.declared.state.DecoderState.TheVariants.{Idle, Grab, GrabChain}
use Rattle.dec.specs.declared.state.DecodeResult.TheVariants.{DataContinue}
use Rattle.dec.specs.declared.state.Stepped.{Stepped}
use Rattle.dec.specs.declared.stream.CobsDecoder.{CobsDecoder}
use Rattle.dec.proofs.Cases.{by_bool}

-- ---- the test

-- beyond the room, a place that is not 0, idle, skipping
abbrev Test : (beyond placed idle skips : Bool) → Bool
Test x p i s = x || (p && (i || s)) || (s && not i)

test_idle : (p s : Bool) → p ≡ Test false p true s
test_idle true s = refl
test_idle false true = refl
test_idle false false = refl

test_open : (p s : Bool) → s ≡ Test false p false s
test_open true true = refl
test_open true false = refl
test_open false true = refl
test_open false false = refl

module _ (d : CobsDecoder) (room : ℕ) where
  pub bad-beyond : room < d.place → true ≡ bad d room
  unfolding bad
  bad-beyond h = rw (lt-ltb room d.place h)

  module _ (h : d.place ≤ room) where
    pub bad-idle : d.state ≡ Idle → ltb 0 d.place ≡ bad d room
    unfolding bad
    bad-idle q = rw (le-ltb room d.place h, q) (test_idle (ltb 0 d.place) d.skip)

    by_open : is_idle d.state ≡ false → d.skip ≡ bad d room
    unfolding bad
    by_open q = rw (le-ltb room d.place h, q) (test_open (ltb 0 d.place) d.skip)

    pub bad-open : (d.state ≡ Idle → ⊥) → d.skip ≡ bad d room
    bad-open n = go d.state refl
      where
        go : (s : DecoderState) → d.state ≡ s → d.skip ≡ bad d room
        go Idle e = absurd (n e)
        go (Grab left) e = by_open (rw e)
        go (GrabChain left) e = by_open (rw e)

-- ---- a good state

pub record Good (d : CobsDecoder) (room : ℕ) : Type 0 where
  pub within : d.place ≤ room
  pub start : is_idle d.state ≡ true → d.place ≡ 0
  pub rest : d.skip ≡ true → is_idle d.state ≡ true

test_good : (x p i s : Bool) → Test x p i s ≡ false → (x ≡ false) × (i ≡ true → p ≡ false) × (s ≡ true → i ≡ true)
test_good true p i s e = absurd (false≢true (sym e))
test_good false true true s e = absurd (false≢true (sym e))
test_good false true false true e = absurd (false≢true (sym e))
test_good false true false false e = (refl, (λ h. absurd (false≢true h)), λ h. h)
test_good false false true s e = (refl, (λ h. refl), λ h. refl)
test_good false false false true e = absurd (false≢true (sym e))
test_good false false false false e = (refl, (λ h. refl), λ h. h)

good_test : (x p i s : Bool) → x ≡ false → (i ≡ true → p ≡ false) → (s ≡ true → i ≡ true) → Test x p i s ≡ false
good_test true p i s a b c = a
good_test false true true s a b c = b refl
good_test false true false true a b c = sym (c refl)
good_test false true false false a b c = refl
good_test false false true true a b c = refl
good_test false false true false a b c = refl
good_test false false false true a b c = sym (c refl)
good_test false false false false a b c = refl

module _ (d : CobsDecoder) (room : ℕ) where
  pub good_of : bad d room ≡ false → Good d room
  unfolding bad
  good_of e =
      let t = test_good (ltb room d.place) (ltb 0 d.place) (is_idle d.state) d.skip e in
      record { within = ltb-false room d.place t.0; start = λ h. omega (arith, ltb-false 0 d.place (t.1 h)); rest = t.2 }

  pub of_good : Good d room → bad d room ≡ false
  unfolding bad
  of_good g =
      good_test (ltb room d.place) (ltb 0 d.place) (is_idle d.state) d.skip (le-ltb room d.place g.within)
      (λ h. le-ltb 0 d.place (omega (arith, g.start h))) g.rest

good_new : (room : ℕ) → Good new room
good_new room = record { within = zero-le; start = λ h. refl; rest = λ h. absurd (false≢true h) }

pub new-good : (room : ℕ) → bad new room ≡ false
new-good room = of_good new room (good_new room)

good-skipping : (room : ℕ) → Good skipping room
good-skipping room = record { within = zero-le; start = λ h. refl; rest = λ h. refl }

pub skipping-good : (room : ℕ) → bad skipping room ≡ false
skipping-good room = of_good skipping room (good-skipping room)

-- ---- a byte

-- Inside a body.
Inside : DecoderState → Type 0
Inside s = is_idle s ≡ false

inside-good : (place room : ℕ) (s : DecoderState) → place ≤ room → Inside s → Good (at place s) room
unfolding Inside
inside-good place room s h e = record { within = h; start = λ i. absurd (false≢true (sym e ∙ i)); rest = λ i. absurd (false≢true i) }

inside-opened : (c : ℕ) → Inside (opened c)
unfolding Inside
inside-opened c = by_bool (eqb c 255) (λ e. rw e) (λ e. rw e)

abbrev After : (place room : ℕ) → Stepped → Type 0
After place room t = Good (result_outcome place room t.state t.result).next room

good-put : (place room : ℕ) (s : DecoderState) (x : ℕ) → Inside s → After place room (record { state = s; result = Ok (DataContinue x) })
good-put place room s x e =
    by_bool (ltb place room) (λ q. rw q (inside-good (suc place) room s (ltb-true place room q) e)) (λ q. rw q (good-skipping room))

good-end : (left place room : ℕ) → After place room (record { state = Idle; result = at_zero left })
good-end zero place room = good_new room
good-end (suc left) place room = good_new room

good-step : (s : DecoderState) (place room b : ℕ) → Good (at place s) room → After place room (stepped s b)
unfolding Inside
good-step Idle place room zero g = g
good-step Idle place room (suc n) g = inside-good place room (opened (suc n)) g.within (inside-opened (suc n))
good-step (Grab left) place room zero g = good-end left place room
good-step (Grab zero) place room (suc n) g = good-put place room (opened (suc n)) 0 (inside-opened (suc n))
good-step (Grab (suc left)) place room (suc n) g = good-put place room (Grab left) (suc n) refl
good-step (GrabChain left) place room zero g = good-end left place room
good-step (GrabChain zero) place room (suc n) g = inside-good place room (opened (suc n)) g.within (inside-opened (suc n))
good-step (GrabChain (suc left)) place room (suc n) g = good-put place room (GrabChain left) (suc n) refl

pub good-byte : (d : CobsDecoder) (room b : ℕ) → Good d room → Good (byte_outcome d room b).next room
unfolding byte_outcome
good-byte d room b g = go d.skip (eqb b 0)
  where
    awake : Good (at d.place d.state) room
    awake = record { within = g.within; start = g.start; rest = λ h. absurd (false≢true h) }

    go : (t z : Bool)
        → Good (if t then goes (if z then new else d) else result_outcome d.place room (stepped d.state b).state (stepped d.state b).result).next room
    go true true = good_new room
    go true false = g
    go false z = good-step d.state d.place room b awake

-- ---- a piece

good-joined : (o r : Outcome) (n room : ℕ) → Good o.next room → Good r.next room → Good (joined o n r).next room
unfolding joined further
good-joined o r n room g h =
    by_bool (is_more o) (λ e. by_bool (is_more r) (λ f. rw (e, f) h) (λ f. rw (e, f) h)) (λ e. rw e g)

pub good_piece : (p : List ℕ) (d : CobsDecoder) (room : ℕ) → Good d room → Good (piece_outcome d room p).next room
unfolding piece_outcome
good_piece [] d room g = g
good_piece (b ∷ p) d room g =
    let h : Good (byte_outcome d room b).next room = good-byte d room b g in
    good-joined (byte_outcome d room b) (piece_outcome (byte_outcome d room b).next room p) 1 room h (good_piece p (byte_outcome d room b).next room h)

-- no call leads from a good state to a BadState
pub push-good : (d : CobsDecoder) (room : ℕ) (p : List ℕ) → bad d room ≡ false → bad (push_outcome d room p).next room ≡ false
unfolding push_outcome
push-good d room p e = rw e (of_good (piece_outcome d room p).next room (good_piece p d room (good_of d room e)))
