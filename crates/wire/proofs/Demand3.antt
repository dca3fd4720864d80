-- Demand 3 holds of every delivery that meets its premises. Assumes nothing.
use Rattle.std.specs.Prelude.{if◌then◌else◌}
use mathlib.Core.Path.{◌≡◌, refl}
use mathlib.Core.Bool.{Bool, true, false}
use mathlib.Core.List.{List}
use Prim.Native.Nat.{◌-◌, ◌≤◌}
use native.Mathlib.Omega.{arith}
use lib.Dec.{ltb}
use borrow.Author.Tests.{le-ltb, ltb-false}
use Rattle.cobs.specs.Answers.{missing, complete, still_open}
use Rattle.cobs.proofs.Told.{unlike}
use Rattle.marks.proofs.Counts.{count-both, count-all, all-counted}
use Rattle.wire.specs.Batch.{Batch, count, weight_at, Item, has, has_close, arrived_count, due}
use Rattle.wire.specs.Demand3.{Delivery, Premises, Completes, Demand3}
use Rattle.wire.proofs.Sums.{sum_same}
use Rattle.wire.proofs.Among.{said}

-- ---- Complete exactly if the close and all N arrived, and then both ends hold equal count and total

module _ (b : Batch) (l : List Item) where
  -- Complete is answered where the close arrived and none is missing
  due-complete : due b l ≡ complete → (has_close l ≡ true) × (count b ≤ arrived_count b l)
  due-complete e = go (has_close l) refl (ltb (arrived_count b l) (count b)) refl e
    where
      go : (c : Bool) → has_close l ≡ c → (m : Bool) → ltb (arrived_count b l) (count b) ≡ m
          → (if c then (if m then missing (count b - arrived_count b l) else complete) else still_open) ≡ complete
          → (has_close l ≡ true) × (count b ≤ arrived_count b l)
      go true q true p e = absurd (unlike e (λ z. omega arith))
      go true q false p e = (q, ltb-false (arrived_count b l) (count b) p)
      go false q m p e = absurd (unlike e (λ z. omega arith))

  all-counted-here : count b ≤ arrived_count b l → arrived_count b l ≡ count b
  all-counted-here h = omega (arith, count-both (λ i. has i l) (count b))

  pub completed : Completes b l
  completed = record {
    only = λ e. ((due-complete e).0, all-counted (λ i. has i l) (count b) (all-counted-here (due-complete e).1));
    then = λ c all. rw (c, le-ltb (arrived_count b l) (count b) (omega (arith, count-all (λ i. has i l) (count b) all)));
    counts = λ e. all-counted-here (due-complete e).1;
    totals = λ e.
        sum_same (λ i. if has i l then weight_at b i else 0) (weight_at b) (count b)
        (λ j k. rw (all-counted (λ i. has i l) (count b) (all-counted-here (due-complete e).1) j k));
  }

pub demand3 : (d : Delivery) → Premises d → Demand3 d
demand3 d p = record { answers = said d p; completes = completed d.batch }
