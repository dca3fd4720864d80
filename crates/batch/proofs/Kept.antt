-- What no frame changes: that the state is good and within its types, the table's length, the slot count and the batch number.
-- Assumes nothing.
use Rattle.std.specs.Prelude.{Option, Some, None}
use mathlib.Core.Path.{◌≡◌, refl, ◌∙◌}
use mathlib.Core.Bool.{Bool, true, false}
use mathlib.Core.List.{List}
use Prim.Native.Nat.{ℕ, ◌/◌, ◌<◌}
use lib.ListN.{length}
use Rattle.cobs.specs.Code.{Bytes}
use Rattle.cobs.proofs.Wide.{bytes_drop}
use Rattle.record.specs.Frame.{is_bad_length}
use Rattle.record.proofs.Round.{read-total}
use Rattle.batch.specs.State.{is_bad}
use Rattle.batch.specs.Frame.{Outcome, refused, taken, take_all, outcome, next_after, table_after, accept_next, accept_table}
use Rattle.batch.specs.Verdict.{after}
use Rattle.batch.specs.declared.Receiver.{Receiver}
use Rattle.batch.specs.declared.Close as held
use Rattle.batch.specs.declared.judge.Effect.{Effect}
use Rattle.batch.proofs.Asked.{Asked, new, known, first, again, asked}
use Rattle.batch.proofs.Effects.{stored-length}
use Rattle.batch.proofs.Fold.{by_records}
use Rattle.batch.proofs.Good.{Good, good-all}
use Rattle.batch.proofs.Records.{after-slots, after-batch}

-- What holds of a refusal, and of every frame that is taken, holds of every frame.
module _ (P : Receiver → (t : List ℕ) → Receiver → (u : List ℕ) → Type 0) (r : Receiver) (t f : List ℕ) (same : P r t r t)
    (all : (r' : Receiver) (t' : List ℕ) → take_all (length f / 16) 0 r t f ≡ taken r' t' → P r t r' t') where
  by-outcome : (o : Outcome) → take_all (length f / 16) 0 r t f ≡ o → P r t (next_after r o) (table_after t o)
  by-outcome (refused a) e = same
  by-outcome (taken r' t') e = all r' t' e

  by_tests : (a b : Bool) → is_bad r (length t) ≡ a → is_bad_length 16 240 (length f) ≡ b → P r t (next_after r (outcome r t f)) (table_after t (outcome r t f))
  unfolding outcome
  by_tests true b ea eb = rw ea same
  by_tests false true ea eb = rw (ea, eb) same
  by_tests false false ea eb = rw (ea, eb) (by-outcome (take_all (length f / 16) 0 r t f) refl)

  by-frame : P r t (accept_next r t f) (accept_table r t f)
  unfolding accept_next accept_table
  by-frame = by_tests (is_bad r (length t)) (is_bad_length 16 240 (length f)) refl refl

pub accept-length : (r : Receiver) (t f : List ℕ) → length (accept_table r t f) ≡ length t
accept-length r t f =
    by-frame (λ r t r' t'. length t' ≡ length t) r t f refl
    (λ r' t' e. by_records (λ n r t s r' t'. length t' ≡ length t) (λ r t s. refl) (λ n k r t s e r' t' q ih. ih ∙ stored-length e t s) (length f / 16) 0 r t f r' t' e)

pub accept-slots : (r : Receiver) (t f : List ℕ) → (accept_next r t f).slots ≡ r.slots
accept-slots r t f =
    by-frame (λ r t r' t'. r'.slots ≡ r.slots) r t f refl
    (λ r' t' e. by_records (λ n r t s r' t'. r'.slots ≡ r.slots) (λ r t s. refl) (λ n k r t s e r' t' q ih. ih ∙ after-slots e r) (length f / 16) 0 r t f r' t' e)

pub accept-batch : (r : Receiver) (t f : List ℕ) → (accept_next r t f).batch ≡ r.batch
accept-batch r t f =
    by-frame (λ r t r' t'. r'.batch ≡ r.batch) r t f refl
    (λ r' t' e. by_records (λ n r t s r' t'. r'.batch ≡ r.batch) (λ r t s. refl) (λ n k r t s e r' t' q ih. ih ∙ after-batch e r) (length f / 16) 0 r t f r' t' e)

-- The total of a taken close; 0 before there is one.
abbrev pub closed_total : Option held.Close → ℕ
closed_total None = 0
closed_total (Some close) = close.total

-- over bytes it fits 32 bits
asked-closed : (r : Receiver) (s : List ℕ) {e : Effect} → Bytes s → Asked r s e → closed_total r.close < 4294967296 → closed_total (after e r).close < 4294967296
unfolding after
asked-closed r s b (new batch i x y z w q in_slots in_limit free) h = h
asked-closed r s b (known batch i x y z w q in_slots set) h = h
asked-closed r s b (first batch c q in_slots fresh free) h = read-total s b q
asked-closed r s b (again batch c q same) h = h

pub accept-closed : (r : Receiver) (t f : List ℕ) → Bytes f → closed_total r.close < 4294967296 → closed_total (accept_next r t f).close < 4294967296
accept-closed r t f b h =
    by-frame (λ r t r' t'. closed_total r.close < 4294967296 → closed_total r'.close < 4294967296) r t f (λ h. h)
    (λ r' t' e.
    by_records (λ n r t s r' t'. Bytes s → closed_total r.close < 4294967296 → closed_total r'.close < 4294967296) (λ r t s b h. h)
    (λ n k r t s e r' t' q ih b h. ih (bytes_drop s 16 b) (asked-closed r s b (asked k r t s e q) h)) (length f / 16) 0 r t f r' t' e b)
    h

pub accept-good : (r : Receiver) (t f : List ℕ) (n : ℕ) → Good r n → Good (accept_next r t f) n
accept-good r t f n g =
    by-frame (λ r t r' t'. Good r n → Good r' n) r t f (λ g. g) (λ r' t' e. good-all (length f / 16) 0 r t f r' t' n e) g
