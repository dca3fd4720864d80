-- A state that is not bad: opening gives one, and no record or frame leads out. Its total fits 32 bits. Assumes nothing.
use Rattle.std.specs.Prelude.{Ok}
use mathlib.Core.Path.{◌≡◌, refl, ◌∙◌}
use mathlib.Core.Bool.{Bool, true, false, ◌||◌}
use mathlib.Core.List.{List}
use Prim.Native.Nat.{ℕ, ◌*◌, ◌≤◌}
use native.Mathlib.Nat.{min-le_left, min-le_right}
use native.Mathlib.Omega.{arith}
use lib.ListN.{length}
use borrow.Author.Tests.{ltb-false, le-ltb}
use Rattle.cobs.specs.Words.{◌exceeds◌}
use Rattle.marks.specs.Marks.{marked_below}
use Rattle.marks.proofs.Marks.{set-mark-length}
use Rattle.marks.proofs.Below.{below_le, below_none, below_new}
use Rattle.record.proofs.Round.{read-weight}
use Rattle.batch.specs.State.{room_for, marked_in, mark_from, limit, opened, is_bad}
use Rattle.batch.specs.Verdict.{verdict, after}
use Rattle.batch.specs.Frame.{taken, take_all}
use Rattle.batch.specs.declared.Receiver.{Receiver}
use Rattle.batch.specs.declared.judge.Effect.{Effect}
use Rattle.batch.proofs.Fold.{by_records}
use Rattle.batch.proofs.Asked.{Asked, new, known, first, again, asked}

-- What a state that is not bad has, with a table of n bytes.
pub record Good (r : Receiver) (n : ℕ) : Type 0 where
  pub words : length r.marks ≡ 64
  pub room : r.slots ≤ room_for n
  pub few : r.slots ≤ 4096
  pub below : marked_in r ≤ marked_below r.marks (limit r)
  pub limited : limit r ≤ r.slots
  pub light : r.total ≤ 1000000 * marked_in r

neither : (x y : Bool) → (x || y) ≡ false → (x ≡ false) × (y ≡ false)
neither true y e = let z : ◌≡◌ {A = ℕ} 0 1 = cc in absurd (omega arith)
neither false y e = (refl, e)

pub good : (r : Receiver) (n : ℕ) → length r.marks ≡ 64 → is_bad r n ≡ false → Good r n
unfolding is_bad
good r n w e =
    let a : Bool = r.slots exceeds room_for n in
    let b : Bool = r.slots exceeds 4096 in
    let c : Bool = mark_from (limit r) r in
    let d : Bool = limit r exceeds r.slots in
    let p4 = neither (((a || b) || c) || d) (r.total exceeds 1000000 * marked_in r) e in
    let p3 = neither ((a || b) || c) d p4.0 in
    let p2 = neither (a || b) c p3.0 in
    let p1 = neither a b p2.0 in
    record {
      words = w;
      room = ltb-false (room_for n) r.slots p1.0;
      few = ltb-false 4096 r.slots p1.1;
      below = ltb-false (marked_below r.marks (limit r)) (marked_in r) p2.1;
      limited = ltb-false r.slots (limit r) p3.1;
      light = ltb-false (1000000 * marked_in r) r.total p4.1;
    }

pub not_bad : (r : Receiver) (n : ℕ) → Good r n → is_bad r n ≡ false
unfolding is_bad
not_bad r n g =
    simp (
      le-ltb (room_for n) r.slots g.room,
      le-ltb 4096 r.slots g.few,
      le-ltb (marked_below r.marks (limit r)) (marked_in r) g.below,
      le-ltb r.slots (limit r) g.limited,
      le-ltb (1000000 * marked_in r) r.total g.light,
    )

-- a state that equals a good one
pub still-good : (x r : Receiver) (m n : ℕ) → x ≡ r → m ≡ n → Good r n → (is_bad x m ≡ false) × (length x.marks ≡ 64)
still-good x r m n er en g = rw (er, en) (not_bad r n g, g.words)

-- a batch just opened
pub open-good : (batch n : ℕ) → Good (opened batch n) n
unfolding opened limit
open-good batch n =
    record {
      words = refl;
      room = min-le_left (room_for n) 4096;
      few = min-le_right (room_for n) 4096;
      below = omega (arith, below_none 4096);
      limited = omega arith;
      light = omega arith;
    }

-- 4,096 times 1,000,000 fits 32 bits
pub total-fits : (r : Receiver) (n : ℕ) → Good r n → r.total ≤ 4096000000
total-fits r n g = omega (arith, g.light, below_le r.marks 4096)

-- ---- one record

good-asked : (r : Receiver) (s : List ℕ) {e : Effect} (n : ℕ) → Good r n → Asked r s e → Good (after e r) n
unfolding after limit
good-asked r s n g (new batch i x y z w q in_slots in_limit free) =
    let few = g.few in
    let all = below_new r.marks i 4096 g.words (omega arith) (omega arith) free in
    let low = below_new r.marks i (limit r) g.words (omega arith) in_limit free in
    record {
      words = set-mark-length r.marks i ∙ g.words;
      room = g.room;
      few = few;
      below = omega (arith, g.below, all, low);
      limited = g.limited;
      light = omega (arith, g.light, all, read-weight s q);
    }
good-asked r s n g (known batch i x y z w q in_slots set) = g
good-asked r s n g (first batch c q in_slots fresh free) =
    record { words = g.words; room = g.room; few = g.few; below = free; limited = in_slots; light = g.light }
good-asked r s n g (again batch c q same) = g

pub good-after : (k : ℕ) (r : Receiver) (t s : List ℕ) (e : Effect) (n : ℕ) → Good r n → verdict k r t s ≡ Ok e → Good (after e r) n
good-after k r t s e n g h = good-asked r s n g (asked k r t s e h)

-- ---- a frame

pub good-all : (m k : ℕ) (r : Receiver) (t s : List ℕ) (r' : Receiver) (t' : List ℕ) (n : ℕ) → take_all m k r t s ≡ taken r' t' → Good r n → Good r' n
good-all m k r t s r' t' n e =
    by_records (λ m r t s r' t'. Good r n → Good r' n) (λ r t s g. g)
    (λ m k r t s e r' t' q ih g. ih (good-after k r t s e n g q)) m k r t s r' t' e
