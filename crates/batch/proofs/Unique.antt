-- Two results that meet a function's promise are equal, for every public function. Assumes nothing.
use Rattle.std.specs.Prelude.{Result, Ok, Err, if◌then◌else◌}
use mathlib.Core.Path.{◌≡◌, refl, sym, ap₂, ◌∙◌}
use mathlib.Core.List.{List}
use Prim.Native.Nat.{ℕ}
use lib.Dec.{eqb}
use Rattle.cobs.specs.Answers.{Told}
use Rattle.cobs.proofs.Told.{one-result}
use Rattle.batch.specs.State.{opened, told_standing, stands_told}
use Rattle.batch.specs.Frame.{told, accept_told, accept_next, accept_table}
use Rattle.cobs.specs.declared.refusals.BadState.{BadState}
use Rattle.batch.specs.declared.Receiver.{Receiver}
use Rattle.batch.specs.declared.Accepted.{Accepted}
use Rattle.batch.specs.declared.Refusal.{Refusal}
use Rattle.batch.specs.declared.Refusal.TheVariants as refusal
use Rattle.batch.specs.declared.Standing.{Standing}
use Rattle.batch.specs.declared.Standing.TheVariants as stand

-- ---- reading an answer back from what tells it

stand_back : Told → Standing
stand_back t =
    if eqb t.number 15 then stand.Open
    else if eqb t.number 16 then stand.Missing t.first
    else if eqb t.number 17 then stand.Complete
    else stand.Differs

back : Told → Result Standing Refusal
back t =
    if eqb t.number 6 then Err refusal.BadState
    else if eqb t.number 7 then Err refusal.BadLength
    else if eqb t.number 8 then Err (refusal.BadRecord t.second)
    else if eqb t.number 9 then Err (refusal.Stale t.second)
    else if eqb t.number 10 then Err (refusal.Ahead t.second)
    else if eqb t.number 11 then Err (refusal.NoRoom t.second)
    else if eqb t.number 12 then Err (refusal.BeyondClose t.second)
    else if eqb t.number 13 then Err (refusal.Conflict t.second)
    else Ok (stand_back t)

back-told : (a : Result Standing Refusal) → back (told a) ≡ a
unfolding back stand_back
back-told (Ok stand.Open) = refl
back-told (Ok (stand.Missing k)) = refl
back-told (Ok stand.Complete) = refl
back-told (Ok stand.Differs) = refl
back-told (Err refusal.BadState) = refl
back-told (Err refusal.BadLength) = refl
back-told (Err (refusal.BadRecord k)) = refl
back-told (Err (refusal.Stale k)) = refl
back-told (Err (refusal.Ahead k)) = refl
back-told (Err (refusal.NoRoom k)) = refl
back-told (Err (refusal.BeyondClose k)) = refl
back-told (Err (refusal.Conflict k)) = refl

back_standing : Told → Result Standing BadState
back_standing t = if eqb t.number 6 then Err (record {}) else Ok (stand_back t)

standing-back : (a : Result Standing BadState) → back_standing (told_standing a) ≡ a
unfolding back_standing stand_back
standing-back (Ok stand.Open) = refl
standing-back (Ok (stand.Missing k)) = refl
standing-back (Ok stand.Complete) = refl
standing-back (Ok stand.Differs) = refl
standing-back (Err refusal) = refl

-- ---- the calls

pub unique-open : (batch n : ℕ) (r s : Receiver) → r ≡ opened batch n → s ≡ opened batch n → r ≡ s
unique-open batch n r s p q = p ∙ sym q

pub unique-accept : (r : Receiver) (t f : List ℕ) (a b : Accepted) (u v : List ℕ)
    → told a.answer ≡ accept_told r t f → a.next ≡ accept_next r t f → u ≡ accept_table r t f
    → told b.answer ≡ accept_told r t f → b.next ≡ accept_next r t f → v ≡ accept_table r t f → (a ≡ b) × (u ≡ v)
unique-accept r t f a b u v pa pn pu qa qn qv =
    (ap₂ {C = Accepted} (λ (x : Receiver) (y : Result Standing Refusal). record { next = x; answer = y }) (pn ∙ sym qn) (one-result told back back-told pa qa), pu ∙ sym qv)

pub unique-stands : (r : Receiver) (n : ℕ) (a b : Result Standing BadState) → told_standing a ≡ stands_told r n → told_standing b ≡ stands_told r n → a ≡ b
unique-stands r n a b p q = one-result told_standing back_standing standing-back p q
