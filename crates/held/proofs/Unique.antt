-- Two results that meet a function's promise are equal, the encoder and the slice behind its reference with them, for every public
-- function. Assumes nothing.
use Rattle.std.specs.Prelude.{Result, Ok, Err, ⊤, if◌then◌else◌}
use mathlib.Core.Path.{◌≡◌, refl, sym, ap, ◌∙◌}
use mathlib.Core.List.{List}
use Prim.Native.Nat.{ℕ}
use lib.ListN.{length, get_or}
use denote.Ref.{MutBor}
use Rattle.cobs.specs.Answers.{Told, done, is_done}
use Rattle.cobs.specs.declared.refusals.BadState.{BadState}
use Rattle.cobs.specs.declared.refusals.DestBufTooSmall.{DestBufTooSmall}
use Rattle.cobs.proofs.Told.{one-result}
use Rattle.enc.specs.Stream.{fresh, start_told, told, push_told, push_next, told_finished, finish_told, finish_dest}
use Rattle.enc.specs.declared.stream.Encoder.{Encoder}
use Rattle.enc.specs.declared.stream.PushError.{PushError}
use Rattle.enc.specs.declared.stream.Pushed.{Pushed}
use Rattle.enc.proofs.Unique.{unique-Encoder-push, unique-Encoder-finalize}
use Rattle.held.specs.Held.{told_opened, over, pushed, next₁, dest₁, next₂, dest₂, told_two, two_told, two_dest}
use Rattle.held.specs.declared.CobsEncoder.{CobsEncoder}
use Rattle.held.specs.declared.NewEncoder.{NewEncoder}
use Rattle.held.specs.declared.TwoPieces.{TwoPieces}

-- ---- new

opened-back : Told → Result ⊤ DestBufTooSmall
opened-back t = if is_done t then Ok tt else Err record {}

opened-undone : (a : Result ⊤ DestBufTooSmall) → opened-back (told_opened a) ≡ a
unfolding opened-back
opened-undone (Ok u) = refl
opened-undone (Err e) = refl

one-opened : {t : Told} (a b : Result ⊤ DestBufTooSmall) → told_opened a ≡ t → told_opened b ≡ t → a ≡ b
one-opened a b p q = one-result told_opened opened-back opened-undone p q

-- What `new` promises of its result r, on the slice x.
abbrev Makes : MutBor (List ℕ) → NewEncoder → Type 0
Makes x r = (told_opened r.answer ≡ start_told (length x.now)) × (r.encoder ≡ over x)

pub unique-new : (x : MutBor (List ℕ)) (r s : NewEncoder) → Makes x r → Makes x s → r ≡ s
unique-new x r s p q i = record { encoder = (p.1 ∙ sym q.1) i; answer = one-opened r.answer s.answer p.0 q.0 i }

-- ---- push and finalize

-- an answer to a piece is the only one, as `Encoder::push` has it
one_answer : (e : Encoder) (piece d : List ℕ) (r s : Result ⊤ PushError) → told r ≡ push_told e piece (length d) → told s ≡ push_told e piece (length d) → r ≡ s
one_answer e piece d r s p q =
    ap (λ (z : Pushed). z.answer)
    (unique-Encoder-push e piece d (with-next r) (with-next s) _ _ (record { answer = p; next = refl; memory = refl })
    (record { answer = q; next = refl; memory = refl })).0
  where
    with-next : Result ⊤ PushError → Pushed
    with-next a = record { answer = a; next = push_next e piece (length d) }

-- What `push` promises of its answer r and of the encoder after it.
abbrev Pushes : (e : CobsEncoder) (piece : List ℕ) → Result ⊤ PushError → CobsEncoder → Type 0
Pushes e piece r after = (told r ≡ push_told e.encoder piece (length e.dest.now)) × (after ≡ pushed e piece)

pub unique-push : (e : CobsEncoder) (piece : List ℕ) (r s : Result ⊤ PushError) (k l : CobsEncoder) → Pushes e piece r k → Pushes e piece s l
    → (r ≡ s) × (k ≡ l)
unique-push e piece r s k l p q = (one_answer e.encoder piece e.dest.now r s p.0 q.0, p.1 ∙ sym q.1)

-- What `finalize` promises of its answer r and of the slice after it.
abbrev Finishes : (e : CobsEncoder) → Result ℕ BadState → List ℕ → Type 0
Finishes e r after = (told_finished r ≡ finish_told e.encoder (length e.dest.now)) × (after ≡ finish_dest e.encoder e.dest.now)

pub unique-finalize : (e : CobsEncoder) (r s : Result ℕ BadState) (k l : List ℕ) → Finishes e r k → Finishes e s l → (r ≡ s) × (k ≡ l)
unique-finalize e r s k l p q = unique-Encoder-finalize e.encoder e.dest.now r s k l p.0 q.0 p.1 q.1

-- ---- two pieces

-- answer number k of those told
answer : ℕ → List Told → Told
answer k l = get_or l k (done 0 0)

module _ (d a b : List ℕ) (r s : TwoPieces) where
  one-two : told_two r ≡ two_told d a b → told_two s ≡ two_told d a b → r ≡ s
  unfolding two_told answer
  one-two p q i = record {
    opened = one-opened r.opened s.opened (ap (answer 0) p) (ap (answer 0) q) i;
    first = one_answer fresh a d r.first s.first (ap (answer 1) p) (ap (answer 1) q) i;
    second = one_answer (next₁ d a) b (dest₁ d a) r.second s.second (ap (answer 2) p) (ap (answer 2) q) i;
    finished = (unique-Encoder-finalize (next₂ d a b) (dest₂ d a b) r.finished s.finished _ _ (ap (answer 3) p) (ap (answer 3) q) refl refl).0 i;
  }

  pub unique-encode_two : (k l : List ℕ) → (told_two r ≡ two_told d a b) × (k ≡ two_dest d a b) → (told_two s ≡ two_told d a b) × (l ≡ two_dest d a b)
      → (r ≡ s) × (k ≡ l)
  unique-encode_two k l p q = (one-two p.0 q.0, p.1 ∙ sym q.1)
