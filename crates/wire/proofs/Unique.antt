-- Two results that meet a function's promise are equal, for every public function. Assumes nothing.
use Rattle.std.specs.Prelude.{Option, Some, None, Result, Ok, Err, if◌then◌else◌}
use mathlib.Core.Path.{◌≡◌, refl, sym, ap, ◌∙◌}
use mathlib.Core.List.{List}
use Prim.Native.Nat.{ℕ}
use lib.Dec.{eqb}
use Rattle.cobs.specs.Answers.{Told}
use Rattle.cobs.proofs.Told.{same-told}
use Rattle.dec.specs.declared.stream.CobsDecoder.{CobsDecoder}
use Rattle.batch.specs.declared.Receiver.{Receiver}
use Rattle.batch.specs.declared.Standing.{Standing}
use Rattle.batch.specs.declared.Standing.TheVariants as standing
use Rattle.wire.specs.Again as again
use Rattle.wire.specs.Loop.{Side, received}
use Rattle.wire.specs.Receive.{End, accepting}
use Rattle.wire.specs.Call.{told_received, start, calls, leaves}
use Rattle.wire.specs.declared.Wire.{Wire}
use Rattle.wire.specs.declared.Receipt.{Receipt}
use Rattle.wire.specs.declared.Refusal.{Refusal}
use Rattle.wire.specs.declared.Refusal.TheVariants as refusal

back : Told → Result (Option Standing) Refusal
back t =
    if eqb t.number 14 then Ok None
    else if eqb t.number 2 then Err (refusal.InvalidFrame t.first)
    else if eqb t.number 3 then Err refusal.TargetBufTooSmall
    else if eqb t.number 6 then Err refusal.BadState
    else if eqb t.number 7 then Err refusal.BadLength
    else if eqb t.number 8 then Err (refusal.BadRecord t.second)
    else if eqb t.number 9 then Err (refusal.Stale t.second)
    else if eqb t.number 10 then Err (refusal.Ahead t.second)
    else if eqb t.number 11 then Err (refusal.NoRoom t.second)
    else if eqb t.number 12 then Err (refusal.BeyondClose t.second)
    else if eqb t.number 13 then Err (refusal.Conflict t.second)
    else if eqb t.number 15 then Ok (Some standing.Open)
    else if eqb t.number 16 then Ok (Some (standing.Missing t.first))
    else if eqb t.number 17 then Ok (Some standing.Complete)
    else Ok (Some standing.Differs)

back-told : (r : Result (Option Standing) Refusal) → back (told_received r) ≡ r
unfolding back
back-told (Ok None) = refl
back-told (Ok (Some standing.Open)) = refl
back-told (Ok (Some (standing.Missing k))) = refl
back-told (Ok (Some standing.Complete)) = refl
back-told (Ok (Some standing.Differs)) = refl
back-told (Err (refusal.InvalidFrame n)) = refl
back-told (Err refusal.TargetBufTooSmall) = refl
back-told (Err refusal.BadState) = refl
back-told (Err refusal.BadLength) = refl
back-told (Err (refusal.BadRecord k)) = refl
back-told (Err (refusal.Stale k)) = refl
back-told (Err (refusal.Ahead k)) = refl
back-told (Err (refusal.NoRoom k)) = refl
back-told (Err (refusal.BeyondClose k)) = refl
back-told (Err (refusal.Conflict k)) = refl

pub unique-open : (batch n : ℕ) (a b : Wire) → a ≡ start batch n → b ≡ start batch n → a ≡ b
unique-open batch n a b p q = p ∙ sym q

-- the states, the answer, the count, and both buffers
pub record Same (a b : Receipt) (x y u v : List ℕ) : Type 0 where
  pub receipts : a ≡ b
  pub buffers : x ≡ y
  pub tables : u ≡ v

made : CobsDecoder → Receiver → Result (Option Standing) Refusal → ℕ → Receipt
made d r s n = record { next = record { decoder = d; receiver = r }; answer = s; consumed = n }

pub unique-receive : (w : Wire) (buffer table piece : List ℕ) (a b : Receipt) (x y u v : List ℕ)
    → leaves a x u ≡ received accepting (calls w buffer table) piece → leaves b y v ≡ received accepting (calls w buffer table) piece → Same a b x y u v
unfolding made
unique-receive w buffer table piece a b x y u v p q =
    let e : leaves a x u ≡ leaves b y v = p ∙ sym q in
    let s : a.answer ≡ b.answer = same-told told_received back back-told (ap (λ (r : again.Received (Side End)). r.answer) e) in
    record {
      receipts =
          ap (λ (d : CobsDecoder). made d a.next.receiver a.answer a.consumed) (ap (λ (r : again.Received (Side End)). r.side.decoder) e)
          ∙ ap (λ (r : Receiver). made b.next.decoder r a.answer a.consumed) (ap (λ (r : again.Received (Side End)). r.side.state.receiver) e)
          ∙ ap (λ (t : Result (Option Standing) Refusal). made b.next.decoder b.next.receiver t a.consumed) s
          ∙ ap (λ (n : ℕ). made b.next.decoder b.next.receiver b.answer n) (ap (λ (r : again.Received (Side End)). r.consumed) e);
      buffers = ap (λ (r : again.Received (Side End)). r.side.buffer) e;
      tables = ap (λ (r : again.Received (Side End)). r.side.state.table) e;
    }
