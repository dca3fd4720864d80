-- A piece: the pieces joined, what an accepted piece leaves, and what is never written. Assumes nothing.
use Rattle.std.specs.Prelude.{if◌then◌else◌}
use mathlib.Core.Path.{◌≡◌, refl, sym, ◌∙◌}
use mathlib.Core.Bool.{Bool, true, false, true≢false, not, ◌&&◌}
use mathlib.Core.List.{List, [], ◌∷◌, ◌++◌}
use Prim.Native.Nat.{ℕ, ◌+◌, ◌-◌, ◌*◌, ◌≤◌}
use native.Mathlib.Nat.{le_refl, le_trans}
use native.Mathlib.Omega.{arith}
use lib.ListN.{length, drop, set}
use lib.Seq.{drop-set-lt}
use lib.Dec.{eqb, ltb}
use borrow.Author.Tests.{eq-eqb, eqb-true, eqb-false, ltb-true, ltb-false, le-ltb, not-true, not-false}
use Rattle.cobs.specs.Answers.{longest}
use Rattle.enc.specs.Stream.{moved, wrote, move_all, write_all, finished_length, is_bad, closed}
use Rattle.enc.specs.declared.stream.Encoder.{Encoder}
use Rattle.enc.proofs.Deciding.{neither, Refutes, same_test}
use Rattle.enc.proofs.Steps.{InGroup, in_group, finished-moved, group-moved, one-moved, most-moved, length-wrote, rest-wrote}

-- ---- the pieces joined

pub move_joined : (e : Encoder) (p q : List ℕ) → move_all e (p ++ q) ≡ move_all (move_all e p) q
unfolding move_all
move_joined e [] q = refl
move_joined e (b ∷ p) q = move_joined (moved e b) p q

pub write-joined : (e : Encoder) (p q d : List ℕ) → write_all e (p ++ q) d ≡ write_all (move_all e p) q (write_all e p d)
unfolding move_all write_all
write-joined e [] q d = refl
write-joined e (b ∷ p) q d = write-joined (moved e b) p q (wrote e b d)

-- ---- the finished length never falls

finished-sum : (e : Encoder) → (e.state.place ≤ finished_length e) × (finished_length e ≤ e.state.place + e.state.code)
finished-sum e = go e.full
  where
    go : (t : Bool) → let n = if t then e.state.place else e.state.place + e.state.code in
        (e.state.place ≤ n) × (n ≤ e.state.place + e.state.code)
    go true = omega arith
    go false = omega arith

pub place-finished : (e : Encoder) → e.state.place ≤ finished_length e
place-finished e = (finished-sum e).0

pub finished-grows : (e : Encoder) (p : List ℕ) → finished_length e ≤ finished_length (move_all e p)
unfolding move_all
finished-grows e [] = le_refl _
finished-grows e (b ∷ p) = le_trans (omega (arith, finished-sum e, finished-moved e b)) (finished-grows (moved e b) p)

-- 254 times the finished length, at most
pub finished-below : (e : Encoder) (p : List ℕ)
    → 254 * finished_length (move_all e p) ≤ 254 * (e.state.place + e.state.code) + (e.state.code + 255 * length p)
unfolding move_all
finished-below e [] = omega (arith, finished-sum e)
finished-below e (b ∷ p) = omega (arith, finished-below (moved e b) p, most-moved e b)

-- ---- what bytes leave

pub group-all : (e : Encoder) (p : List ℕ) → InGroup e.state.code → InGroup (move_all e p).state.code
unfolding move_all
group-all e [] g = g
group-all e (b ∷ p) g = group-all (moved e b) p (group-moved e b g)

pub one-all : (e : Encoder) (p : List ℕ) → (e.full ≡ true → e.state.code ≡ 1)
    → (move_all e p).full ≡ true → (move_all e p).state.code ≡ 1
unfolding move_all
one-all e [] h = h
one-all e (b ∷ p) h = one-all (moved e b) p (one-moved e b)

pub count-all : (e : Encoder) (p : List ℕ) → (move_all e p).count ≡ e.count + length p
unfolding move_all moved
count-all e [] = omega arith
count-all e (b ∷ p) = count-all (moved e b) p ∙ omega arith

pub length-all : (e : Encoder) (p d : List ℕ) → length (write_all e p d) ≡ length d
unfolding write_all
length-all e [] d = refl
length-all e (b ∷ p) d = length-all (moved e b) p (wrote e b d) ∙ length-wrote e b d

-- ---- what stands from the finished length on is never written

pub rest_all : (e : Encoder) (p d : List ℕ) (n : ℕ) → InGroup e.state.code → finished_length (move_all e p) ≤ n
    → drop n (write_all e p d) ≡ drop n d
unfolding move_all write_all
rest_all e [] d n g h = refl
rest_all e (b ∷ p) d n g h =
    rest_all (moved e b) p (wrote e b d) n (group-moved e b g) h
    ∙ rest-wrote e b d n g.some (le_trans (finished-grows (moved e b) p) h)

pub rest-closed : (e : Encoder) (d : List ℕ) (n : ℕ) → InGroup e.state.code → finished_length e ≤ n → drop n (closed e d) ≡ drop n d
rest-closed e d n g = go e.full
  where
    go : (t : Bool) → (if t then e.state.place else e.state.place + e.state.code) ≤ n
        → drop n (if t then d else set d e.state.place e.state.code) ≡ drop n d
    go true h = refl
    go false h = drop-set-lt n d e.state.place e.state.code (omega (arith, g.some))

-- ---- the states that go with a buffer

pub record Good (e : Encoder) (room : ℕ) : Type 0 where
  pub group : InGroup e.state.code
  pub fits : finished_length e ≤ room
  pub counted : e.count ≤ longest
  pub one : e.full ≡ true → e.state.code ≡ 1

full-one : (full : Bool) (code : ℕ) → Refutes (full && not (eqb code 1)) (full ≡ true → code ≡ 1)
full-one true code = record { holds = λ e q. eqb-true code 1 (not-false _ e); none = λ h. rw (eq-eqb code 1 (h refl)) }
full-one false code = record { holds = λ e q. absurd (true≢false (sym q)); none = λ h. refl }

pub good : (e : Encoder) (room : ℕ) → Refutes (is_bad e room) (Good e room)
unfolding is_bad
good e room =
    record {
      holds = λ q.
          let n = neither _ _ q in
          let m = neither _ _ n.0 in
          let l = neither _ _ m.0 in
          record {
            group = (in_group e.state.code).holds l.0;
            fits = ltb-false room (finished_length e) l.1;
            counted = ltb-false longest e.count m.1;
            one = (full-one e.full e.state.code).holds n.1;
          };
      none = λ g.
          rw ((in_group e.state.code).none g.group, le-ltb room (finished_length e) g.fits, le-ltb longest e.count g.counted)
          ((full-one e.full e.state.code).none g.one);
    }

-- a test of that meaning which fails
pub passed : {t : Bool} (e : Encoder) (room : ℕ) → t ≡ is_bad e room → t ≡ false → Good e room
passed e room p q = (good e room).holds (sym p ∙ q)

-- the last test of a state: after a full group, and in an open one
module _ (e : Encoder) (room : ℕ) (g : InGroup e.state.code) (l : e.state.place ≤ room) (n : e.count ≤ longest) where
  pub good-full : e.full ≡ true → not (eqb e.state.code 1) ≡ is_bad e room
  good-full f =
      same_test (good e room) _ (λ t h. eqb-false _ _ (not-true _ t) (h.one f))
      (λ t. record { group = g; fits = rw f l; counted = n; one = λ q. eqb-true _ _ (not-false _ t) })

  pub good-open : e.full ≡ false → ltb (room - e.state.place) e.state.code ≡ is_bad e room
  good-open f =
      let left = room - e.state.place in
      same_test (good e room) (ltb left e.state.code)
      (λ t h.
      let h' : e.state.place + e.state.code ≤ room = rw f at h.fits in
      omega (arith, ltb-true left e.state.code t))
      (λ t.
      record {
        group = g;
        fits = rw f (omega (arith, ltb-false left e.state.code t));
        counted = n;
        one = λ q. absurd (true≢false (sym q ∙ f));
      })

pub finished_open : (e : Encoder) → e.full ≡ false → finished_length e ≡ e.state.place + e.state.code
finished_open e f = rw f
