-- A loop over a piece: what is left, from here, gives what the whole gives from the start. Assumes nothing.
use Rattle.std.specs.Prelude.{if◌then◌else◌}
use mathlib.Core.Path.{◌≡◌, refl, sym, ap, ◌∙◌}
use mathlib.Core.Bool.{Bool}
use mathlib.Core.List.{List, [], ◌∷◌}
use Prim.Native.Nat.{ℕ, ◌+◌, ◌*◌, ◌^◌, ◌≤◌, ◌<◌}
use native.Mathlib.Numerals.{add-one}
use native.Mathlib.Omega.{arith}
use lib.ListN.{length, drop, get_or, drop_of_length-le}
use lib.Seq.{drop-cons}
use Rattle.cobs.specs.Answers.{longest}
use Rattle.enc.specs.State.{opened, step}
use Rattle.enc.specs.Stream.{closes_full, moved, wrote, move_all, write_all, finished_length}
use Rattle.enc.specs.declared.state.EncoderState.{EncoderState}
use Rattle.enc.specs.declared.stream.Encoder.{Encoder}
use Rattle.enc.proofs.Steps.{InGroup, Sound, group-moved, sum_moved, length-wrote}

-- The loop has taken i bytes of the piece p, from e₀ to e.
pub record Going (p : List ℕ) (e₀ : Encoder) (i : ℕ) (e : Encoder) : Type 0 where
  pub within : i ≤ length p
  pub group : InGroup e.state.code
  pub near : e.state.place + e.state.code ≤ e₀.state.place + e₀.state.code + 2 * i
  pub counted : e.count ≡ e₀.count + i
  pub rest : move_all e (drop i p) ≡ move_all e₀ p

module _ (p : List ℕ) (e₀ : Encoder) where
  module _ (i : ℕ) (e : Encoder) (g : Going p e₀ i e) where
    pub going-sound : InGroup e₀.state.code → e₀.state.place < 2 ^ 63 → e₀.count + length p ≤ longest → Sound e.state
    going-sound h low few = record { group = g.group; low = omega (arith, g.near, g.within, h.few) }

    module _ (h : i < length p) where
      turn : move_all e (drop i p) ≡ move_all (moved e (get_or p i 0)) (drop (i + 1) p)
      unfolding move_all
      turn = rw (add-one, drop-cons p i 0)

      pub going_on : (e' : Encoder) → e' ≡ moved e (get_or p i 0) → Going p e₀ (i + 1) e'
      unfolding moved
      going_on e' q =
          rw q
          record {
            within = omega arith;
            group = group-moved e (get_or p i 0) g.group;
            near = omega (arith, sum_moved e (get_or p i 0), g.near);
            counted = omega (arith, g.counted);
            rest = sym turn ∙ g.rest;
          }

    pub going_end : length p ≤ i → e ≡ move_all e₀ p
    unfolding move_all
    going_end h = rw (drop_of_length-le p) at g.rest

-- The same with a buffer, from d₀ to d.
pub record Writing (p : List ℕ) (e₀ : Encoder) (d₀ : List ℕ) (i : ℕ) (e : Encoder) (d : List ℕ) : Type 0 where
  pub going : Going p e₀ i e
  pub long : length d ≡ length d₀
  pub memory : write_all e (drop i p) d ≡ write_all e₀ p d₀

module _ (p : List ℕ) (e₀ : Encoder) (d₀ : List ℕ) where
  module _ (i : ℕ) (e : Encoder) (d : List ℕ) (w : Writing p e₀ d₀ i e d) where
    pub writing-on : i < length p → (e' : Encoder) (d' : List ℕ) → e' ≡ moved e (get_or p i 0) → d' ≡ wrote e (get_or p i 0) d
        → Writing p e₀ d₀ (i + 1) e' d'
    unfolding write_all
    writing-on h e' d' qe qd =
        record {
          going = going_on p e₀ i e w.going h e' qe;
          long = ap length qd ∙ length-wrote e (get_or p i 0) d ∙ w.long;
          memory = rw (qe, qd) (rw (drop-cons p i 0, ← add-one i) at w.memory);
        }

    pub writing-end : length p ≤ i → (e ≡ move_all e₀ p) × (d ≡ write_all e₀ p d₀)
    unfolding write_all
    writing-end h = (going_end p e₀ i e w.going h, rw (drop_of_length-le p) at w.memory)

-- ---- a count by numbers: the finished length does not depend on how many bytes were counted before

abbrev pub numbered : (place code : ℕ) (full : Bool) (count : ℕ) → Encoder
numbered place code full count = record { state = opened place code; full = full; count = count }

pub finished-count : (p : List ℕ) (s : EncoderState) (full : Bool) (m n : ℕ)
    → finished_length (move_all record { state = s; full = full; count = m } p) ≡ finished_length (move_all record { state = s; full = full; count = n } p)
unfolding move_all moved
finished-count [] s full m n = refl
finished-count (b ∷ p) s full m n = finished-count p (step s b).1 (closes_full (step s b).0) (m + 1) (n + 1)

pub counting_end : (p : List ℕ) (e : Encoder) (i place code : ℕ) (full : Bool)
    → Going p (numbered e.state.place e.state.code e.full 0) i (numbered place code full i) → length p ≤ i
    → (if full then place else place + code) ≡ finished_length (move_all e p)
counting_end p e i place code full g h = ap finished_length (going_end p _ i _ g h) ∙ finished-count p e.state e.full 0 e.count
