-- What each streaming call answers and leaves. Assumes nothing.
use Rattle.std.specs.Prelude.{Result, Ok, Err, if◌then◌else◌}
use mathlib.Core.Path.{◌≡◌, refl, subst, ◌∙◌}
use mathlib.Core.Bool.{Bool, true, false}
use mathlib.Core.List.{List}
use Prim.Native.Nat.{ℕ, ◌+◌, ◌^◌, ◌≤◌, ◌<◌}
use native.Mathlib.Omega.{arith}
use lib.ListN.{length, set}
use lib.Dec.{eqb}
use borrow.Author.Tests.{eqb-false, lt-ltb, le-ltb}
use Rattle.cobs.specs.Answers.{Told, done, too_long, dest_buf_too_small, bad_state, longest, is_done}
use Rattle.cobs.specs.declared.refusals.BadState.{BadState}
use Rattle.cobs.specs.declared.refusals.DestBufTooSmall.{DestBufTooSmall}
use Rattle.cobs.proofs.Told.{unlike}
use Rattle.enc.specs.State.{state_finalize}
use Rattle.enc.specs.Stream.{fresh, move_all, write_all, finished_length, is_bad, closed, started, told, push_told, push_next, push_dest, finish_told, finish_dest}
use Rattle.enc.specs.declared.state.EncoderState.{EncoderState}
use Rattle.enc.specs.declared.state.Modify.{Modify}
use Rattle.enc.specs.declared.stream.Encoder.{Encoder}
use Rattle.enc.specs.declared.stream.PushError.{PushError}
use Rattle.enc.specs.declared.stream.PushError.TheVariants as error
use Rattle.enc.proofs.Deciding.{by_lt}
use Rattle.enc.proofs.Steps.{Sound, sound}
use Rattle.enc.proofs.Pieces.{Good, good, place-finished}

-- a state that goes with a buffer is sound alone
pub good-sound : (e : Encoder) (room : ℕ) → Good e room → room < 2 ^ 63 → Sound e.state
good-sound e room g h = record { group = g.group; low = omega (arith, g.fits, place-finished e) }

-- ---- start

-- an encoder that `start` gave is fresh, and its buffer is not empty
pub ready_fresh : (room : ℕ) (e : Encoder) → started room ≡ Ok e → (0 < room) × (e ≡ fresh)
unfolding started
ready_fresh room e q = go (eqb room 0) refl q
  where
    go : (t : Bool) → eqb room 0 ≡ t → ◌≡◌ {A = Result Encoder DestBufTooSmall} (if t then Err record {} else Ok fresh) (Ok e) → (0 < room) × (e ≡ fresh)
    go true h k = let z : ◌≡◌ {A = ℕ} 0 1 = cc in absurd (omega arith)
    go false h k = let n = eqb-false room 0 h in (omega arith, cc)

-- ---- push

module _ (e : Encoder) (p : List ℕ) (room : ℕ) where
  pub push-bad : is_bad e room ≡ true → bad_state ≡ push_told e p room
  unfolding push_told
  push-bad h = rw h

  module _ (g : Good e room) where
    pub push-long : longest < e.count + length p → too_long ≡ push_told e p room
    unfolding push_told
    push-long h = rw ((good e room).none g, lt-ltb longest (e.count + length p) h)

    module _ (h : e.count + length p ≤ longest) where
      pub push-small : room < finished_length (move_all e p) → dest_buf_too_small ≡ push_told e p room
      unfolding push_told
      push-small k = rw ((good e room).none g, le-ltb longest (e.count + length p) h, lt-ltb room (finished_length (move_all e p)) k)

      pub push-done : finished_length (move_all e p) ≤ room → done 0 0 ≡ push_told e p room
      unfolding push_told
      push-done k = rw ((good e room).none g, le-ltb longest (e.count + length p) h, le-ltb room (finished_length (move_all e p)) k)

-- what holds of the four answers, each where it is given, holds of the answer
pub by-push : (P : Told → Type 0) (e : Encoder) (p : List ℕ) (room : ℕ)
    → (is_bad e room ≡ true → P bad_state)
    → (Good e room → longest < e.count + length p → P too_long)
    → (Good e room → e.count + length p ≤ longest → room < finished_length (move_all e p) → P dest_buf_too_small)
    → (Good e room → e.count + length p ≤ longest → finished_length (move_all e p) ≤ room → P (done 0 0))
    → P (push_told e p room)
by-push P e p room bad long small fits = go (is_bad e room) refl
  where
    judge : Good e room → P (push_told e p room)
    judge g =
        by_lt longest (e.count + length p) (λ h. subst P (push-long e p room g h) (long g h))
        (λ h. by_lt room (finished_length (move_all e p)) (λ k. subst P (push-small e p room g h k) (small g h k))
        (λ k. subst P (push-done e p room g h k) (fits g h k)))

    go : (t : Bool) → is_bad e room ≡ t → P (push_told e p room)
    go true h = subst P (push-bad e p room h) (bad h)
    go false h = judge ((good e room).holds h)

-- accepted: the state is good, and all of it fits
pub record Taken (e : Encoder) (p : List ℕ) (room : ℕ) : Type 0 where
  pub good : Good e room
  pub few : e.count + length p ≤ longest
  pub fits : finished_length (move_all e p) ≤ room

pub push-taken : (e : Encoder) (p : List ℕ) (room : ℕ) → done 0 0 ≡ push_told e p room → Taken e p room
push-taken e p room =
    by-push (λ t. done 0 0 ≡ t → Taken e p room) e p room (λ h q. absurd (unlike q (λ z. omega arith)))
    (λ g h q. absurd (unlike q (λ z. omega arith)))
    (λ g h k q. absurd (unlike q (λ z. omega arith)))
    (λ g h k q. record { good = g; few = h; fits = k })

undone : (r : PushError) → is_done (told (Err r)) ≡ false
undone error.BadState = refl
undone error.TooLong = refl
undone error.DestBufTooSmall = refl

module _ (e : Encoder) (p d : List ℕ) where
  pub push-refused : (r : PushError) → told (Err r) ≡ push_told e p (length d) → (e ≡ push_next e p (length d)) × (d ≡ push_dest e p d)
  unfolding push_next push_dest
  push-refused r q = rw (← q, undone r) (refl, refl)

  pub push-accepted : done 0 0 ≡ push_told e p (length d) → (move_all e p ≡ push_next e p (length d)) × (write_all e p d ≡ push_dest e p d)
  unfolding push_next push_dest
  push-accepted q = rw (← q) (refl, refl)

-- ---- finalize

-- a sound state asks for its code at its place
module _ (s : EncoderState) (g : Sound s) where
  finalized : state_finalize s ≡ Ok record { place = s.place; code = s.code }
  unfolding state_finalize
  finalized = rw ((sound s).none g)

  pub finalize-asks : (m : Modify) → Ok m ≡ state_finalize s → (m.place ≡ s.place) × (m.code ≡ s.code)
  finalize-asks m q = let f = q ∙ finalized in (cc, cc)

  pub finalize_not_bad : (e : BadState) → Err e ≡ state_finalize s → ⊥
  finalize_not_bad e q = let f = q ∙ finalized in let z : ◌≡◌ {A = ℕ} 0 1 = cc in omega arith

module _ (e : Encoder) (d : List ℕ) where
  pub finish-bad : is_bad e (length d) ≡ true → (bad_state ≡ finish_told e (length d)) × (d ≡ finish_dest e d)
  unfolding finish_told finish_dest
  finish-bad h = rw h (refl, refl)

  pub finish-good : Good e (length d) → (done (finished_length e) 0 ≡ finish_told e (length d)) × (closed e d ≡ finish_dest e d)
  unfolding finish_told finish_dest
  finish-good g = rw ((good e (length d)).none g) (refl, refl)

  pub finish-full : Good e (length d) → e.full ≡ true → (place : ℕ) → place ≡ e.state.place
      → (done place 0 ≡ finish_told e (length d)) × (d ≡ finish_dest e d)
  unfolding finish_told finish_dest
  finish-full g f place p = rw (p, (good e (length d)).none g, f) (refl, refl)

  pub finish-open : Good e (length d) → e.full ≡ false → (place code : ℕ) → place ≡ e.state.place → code ≡ e.state.code
      → (done (place + code) 0 ≡ finish_told e (length d)) × (set d place code ≡ finish_dest e d)
  unfolding finish_told finish_dest
  finish-open g f place code p q = rw (p, q, (good e (length d)).none g, f) (refl, refl)
