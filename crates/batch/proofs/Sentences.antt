-- 01's sentences about the receiver's calls. Assumes nothing.
use Rattle.std.specs.Prelude.{Option, Some, None}
use mathlib.Core.Path.{◌≡◌, refl}
use mathlib.Core.Bool.{Bool, true, false}
use mathlib.Core.List.{List}
use Prim.Native.Nat.{ℕ, ◌≤◌}
use native.Mathlib.Omega.{arith}
use lib.Dec.{eqb, ltb}
use lib.ListN.{length}
use Rattle.batch.specs.State.{marked_in, stand_by, stand_told}
use Rattle.batch.specs.Frame.{Outcome, refused, taken, outcome, outcome_told, next_after, table_after, accept_told, accept_next, accept_table}
use Rattle.batch.specs.Sentences.{NotBad, NeverBad, RefusedUnchanged}
use Rattle.batch.specs.declared.Receiver.{Receiver}
use Rattle.batch.specs.declared.Close.{Close}
use Rattle.batch.proofs.Good.{Good, good, not_bad, open-good}
use Rattle.batch.proofs.Kept.{accept-length, accept-good}

-- ---- no call leads to a BadState

still : (r : Receiver) (n : ℕ) → Good r n → NotBad r n
still r n g = record { state = not_bad r n g; words = g.words }

pub never-bad : NeverBad
never-bad = record {
  opens = λ batch t. still _ _ (open-good batch (length t));
  accepts = λ r t f b. rw (accept-length r t f) (still (accept_next r t f) (length t) (accept-good r t f (length t) (good r (length t) b.words b.state)));
  long = accept-length;
}

-- ---- a refusal changes nothing

-- how a batch stands is told from 15 on
pub stands_from : (marked sum : ℕ) (c : Option Close) → 15 ≤ (stand_by marked sum c).number
stands_from m s None = omega arith
stands_from m s (Some c) = go (ltb m c.count) (eqb s c.total) refl refl
  where
    go : (a b : Bool) → ltb m c.count ≡ a → eqb s c.total ≡ b → 15 ≤ (stand_by m s (Some c)).number
    go true b p q = rw p (omega arith)
    go false true p q = rw (p, q) (omega arith)
    go false false p q = rw (p, q) (omega arith)

next-kept : (r : Receiver) (o : Outcome) → (outcome_told o).number ≤ 13 → next_after r o ≡ r
unfolding stand_told
next-kept r (refused a) h = refl
next-kept r (taken q t) h = absurd (omega (arith, stands_from (marked_in q) q.total q.close))

table_kept : (t : List ℕ) (o : Outcome) → (outcome_told o).number ≤ 13 → table_after t o ≡ t
unfolding stand_told
table_kept t (refused a) h = refl
table_kept t (taken q u) h = absurd (omega (arith, stands_from (marked_in q) q.total q.close))

pub refused_unchanged : RefusedUnchanged
unfolding accept_told accept_next accept_table
refused_unchanged = record { state = λ r t f. next-kept r (outcome r t f); table = λ r t f. table_kept t (outcome r t f) }
