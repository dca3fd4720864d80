-- One call after another: no call leads to a BadState, the finished length never falls, what stands behind it is never written,
-- and buffers that finish alike go on to finish alike. Assumes nothing.
use Rattle.std.specs.Prelude.{if◌then◌else◌}
use mathlib.Core.Path.{◌≡◌, refl, sym, ap, ◌∙◌, subst}
use mathlib.Core.Bool.{Bool, true, false}
use mathlib.Core.List.{List, [], ◌∷◌}
use Prim.Native.Nat.{ℕ, ◌+◌, ◌≤◌, ◌<◌}
use native.Mathlib.Omega.{arith}
use lib.ListN.{length, drop, set, length-set}
use lib.Seq.{set-set, set_comm}
use Rattle.cobs.specs.Answers.{is_done}
use Rattle.enc.specs.Stream.{fresh, obeyed, closes_full, moved, wrote, move_all, write_all, finished_length, is_bad, closed, push_told, push_next, push_dest, finish_dest}
use Rattle.enc.specs.declared.stream.Encoder.{Encoder}
use Rattle.enc.proofs.Steps.{InGroup, by-step, group-moved}
use Rattle.enc.proofs.Pieces.{Good, good, finished-grows, group-all, one-all, count-all, length-all, rest_all, rest-closed}
use Rattle.enc.proofs.Calls.{by-push, Taken, finish-bad, finish-good}

-- ---- no call leads to a BadState

pub fresh-good : (room : ℕ) → 0 < room → Good fresh room
fresh-good room h = record { group = record { some = omega arith; few = omega arith }; fits = h; counted = omega arith; one = λ q. refl }

taken-good : (e : Encoder) (p : List ℕ) (room : ℕ) → Taken e p room → Good (move_all e p) room
taken-good e p room t =
    record {
      group = group-all e p t.good.group;
      fits = t.fits;
      counted = omega (arith, count-all e p, t.few);
      one = one-all e p t.good.one;
    }

-- ---- a piece, accepted or not: as bytes, none of them if it is refused

module _ (e : Encoder) (p : List ℕ) (room : ℕ) where
  pub next-moved : push_next e p room ≡ move_all e (if is_done (push_told e p room) then p else [])
  unfolding push_next move_all
  next-moved = by-push (λ t. (if is_done t then move_all e p else e) ≡ move_all e (if is_done t then p else [])) e p room
      (λ h. refl) (λ g h. refl) (λ g h k. refl) (λ g h k. refl)

  pub good-next : Good e room → Good (push_next e p room) room
  unfolding push_next
  good-next g = by-push (λ t. Good (if is_done t then move_all e p else e) room) e p room (λ h. g) (λ _ h. g) (λ _ h k. g)
      (λ g h k. taken-good e p room record { good = g; few = h; fits = k })

  pub finished-next : finished_length e ≤ finished_length (push_next e p room)
  finished-next = rw next-moved (finished-grows e (if is_done (push_told e p room) then p else []))

module _ (e : Encoder) (p d : List ℕ) where
  pub dest-wrote : push_dest e p d ≡ write_all e (if is_done (push_told e p (length d)) then p else []) d
  unfolding push_dest write_all
  dest-wrote = by-push (λ t. (if is_done t then write_all e p d else d) ≡ write_all e (if is_done t then p else []) d) e p (length d)
      (λ h. refl) (λ g h. refl) (λ g h k. refl) (λ g h k. refl)

  pub length-dest : length (push_dest e p d) ≡ length d
  length-dest = ap length dest-wrote ∙ length-all e (if is_done (push_told e p (length d)) then p else []) d

  pub rest-pushed : (n : ℕ) → finished_length (push_next e p (length d)) ≤ n → drop n (push_dest e p d) ≡ drop n d
  unfolding push_next push_dest
  rest-pushed n =
      by-push (λ t. finished_length (if is_done t then move_all e p else e) ≤ n → drop n (if is_done t then write_all e p d else d) ≡ drop n d)
      e p (length d) (λ h l. refl) (λ g h l. refl) (λ g h k l. refl) (λ g h k l. rest_all e p d n g.group l)

-- ---- the end

-- what holds of the buffer as it is, and with the open code written where the state is good, holds of what finalize leaves
by-finish : (P : List ℕ → Type 0) (e : Encoder) (d : List ℕ) → P d → (Good e (length d) → P (closed e d)) → P (finish_dest e d)
by-finish P e d bad fits = go (is_bad e (length d)) refl
  where
    go : (t : Bool) → is_bad e (length d) ≡ t → P (finish_dest e d)
    go true b = subst P (finish-bad e d b).1 bad
    go false b = let g = (good e (length d)).holds b in subst P (finish-good e d g).1 (fits g)

length-closed : (e : Encoder) (d : List ℕ) → length (closed e d) ≡ length d
length-closed e d = go e.full
  where
    go : (t : Bool) → length (if t then d else set d e.state.place e.state.code) ≡ length d
    go true = refl
    go false = simp length-set

pub length-finished : (e : Encoder) (d : List ℕ) → length (finish_dest e d) ≡ length d
length-finished e d = by-finish (λ (l : List ℕ). length l ≡ length d) e d refl (λ g. length-closed e d)

pub rest-finished : (e : Encoder) (d : List ℕ) (n : ℕ) → finished_length e ≤ n → drop n (finish_dest e d) ≡ drop n d
rest-finished e d n h = by-finish (λ (l : List ℕ). drop n l ≡ drop n d) e d refl (λ g. rest-closed e d n g.group h)

-- ---- buffers that finish alike: at most the byte at the open code's place differs

pub closed_twice : (e : Encoder) (d : List ℕ) → closed e (closed e d) ≡ closed e d
closed_twice e d = go e.full
  where
    go : (t : Bool) → (if t then (if t then d else set d e.state.place e.state.code)
        else set (if t then d else set d e.state.place e.state.code) e.state.place e.state.code)
        ≡ (if t then d else set d e.state.place e.state.code)
    go true = refl
    go false = set-set d e.state.place e.state.code e.state.code

module _ (e : Encoder) (d d' : List ℕ) (q : closed e d ≡ closed e d') where
  -- whatever stands at that place
  alike : (c : ℕ) → set d e.state.place c ≡ set d' e.state.place c
  alike c = go e.full q
    where
      go : (t : Bool) → (if t then d else set d e.state.place e.state.code) ≡ (if t then d' else set d' e.state.place e.state.code)
          → set d e.state.place c ≡ set d' e.state.place c
      go true k = ap (λ (l : List ℕ). set l e.state.place c) k
      go false k =
          sym (set-set d e.state.place e.state.code c) ∙ ap (λ (l : List ℕ). set l e.state.place c) k
          ∙ set-set d' e.state.place e.state.code c

  module _ (g : InGroup e.state.code) (b : ℕ) where
    abbrev end : ℕ
    end = e.state.place + e.state.code

    -- and the byte written at the end
    alike_end : (c : ℕ) → set (set d end b) e.state.place c ≡ set (set d' end b) e.state.place c
    alike_end c =
        set_comm d end e.state.place b c (λ w. omega (arith, w, g.some)) ∙ ap (λ (l : List ℕ). set l end b) (alike c)
        ∙ sym (set_comm d' end e.state.place b c (λ w. omega (arith, w, g.some)))

    alike-wrote : closed (moved e b) (wrote e b d) ≡ closed (moved e b) (wrote e b d')
    unfolding moved wrote
    alike-wrote =
        by-step
        (λ t. let e' : Encoder = record { state = t.1; full = closes_full t.0; count = e.count + 1 } in
        closed e' (obeyed t.0 end d) ≡ closed e' (obeyed t.0 end d'))
        e.state b (λ z. ap (λ (l : List ℕ). set l end 1) (alike e.state.code)) (λ nz f. alike_end 255) (λ nz nf. alike_end (e.state.code + 1))

pub alike_all : (e : Encoder) (p d d' : List ℕ) → InGroup e.state.code → closed e d ≡ closed e d'
    → closed (move_all e p) (write_all e p d) ≡ closed (move_all e p) (write_all e p d')
unfolding move_all write_all
alike_all e [] d d' g q = q
alike_all e (b ∷ p) d d' g q = alike_all (moved e b) p (wrote e b d) (wrote e b d') (group-moved e b g) (alike-wrote e d d' q g b)
