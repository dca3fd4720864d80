-- The streaming encoder gives the encoding: from a fresh start, what is finished is `encode` of all bytes pushed.
-- Assumes nothing.
use mathlib.Core.Path.{◌≡◌, refl, sym, ap, ◌∙◌, subst}
use mathlib.Core.Bool.{Bool, true, false}
use mathlib.Core.List.{List, [], ◌∷◌, ◌++◌, append-nil, append_assoc}
use Prim.Native.Nat.{ℕ, suc, ◌+◌, ◌≤◌, zero-le}
use native.Mathlib.Omega.{arith}
use lib.ListN.{length, set, length-append}
use lib.Seq.{set-set, set_comm}
use Rattle.cobs.specs.Code.{NoZero, encode, over}
use Rattle.cobs.proofs.Runs.{no_zero_append}
use Rattle.cobs.proofs.Groups.{encode-last, encode-full, encode-cut}
use Rattle.cobs.proofs.Over.{over_snoc, over-set}
use Rattle.enc.specs.State.{fresh_state}
use Rattle.enc.specs.Stream.{fresh, obeyed, closes_full, moved, wrote, move_all, write_all, finished_length, closed}
use Rattle.enc.specs.declared.state.EncoderState.{EncoderState}
use Rattle.enc.specs.declared.stream.Encoder.{Encoder}
use Rattle.enc.proofs.Steps.{by-step}

-- In the middle: the closed groups are p and the open group's bytes r. What stands at its code's place may be anything,
-- so a zero is put there.
record Mid (p r d : List ℕ) (s : EncoderState) (d' : List ℕ) : Type 0 where
  clean : NoZero r
  few : length r ≤ 253
  place : s.place ≡ length p
  code : s.code ≡ suc (length r)
  dest : set d' (length p) 0 ≡ over (p ++ 0 ∷ r) d

-- The encoding is s, laid over d.
record End (s d : List ℕ) (e : Encoder) (d' : List ℕ) : Type 0 where
  length_is : finished_length e ≡ length s
  bytes : closed e d' ≡ over s d

-- A just-closed full group goes on with more bytes only.
abbrev More : (full : Bool) → List ℕ → Type 0
More true [] = ⊥
More false [] = Unit {0}
More full (b ∷ m) = Unit {0}

more-open : (m : List ℕ) → More false m
more-open [] = tt
more-open (b ∷ m) = tt

not_full : (full : Bool) → More full [] → full ≡ false
not_full true h = absurd h
not_full false h = refl

abbrev Claim : List ℕ → Type 0
Claim m = (p r d : List ℕ) (e : Encoder) (d' : List ℕ) → Mid p r d e.state d' → More e.full m
    → End (p ++ encode (r ++ m)) d (move_all e m) (write_all e m d')

-- the code in its place
coded : (p r d d' : List ℕ) → set d' (length p) 0 ≡ over (p ++ 0 ∷ r) d → (c : ℕ) → set d' (length p) c ≡ over (p ++ c ∷ r) d
coded p r d d' q c = sym (set-set d' (length p) 0 c) ∙ rw q (over-set p 0 r c d)

-- the next group opens behind whole groups
opens : (p d d' : List ℕ) (s : EncoderState) → s.place ≡ length p → s.code ≡ 1 → d' ≡ over p d → Mid p [] d s d'
opens p d d' s at one q = record { clean = tt; few = zero-le; place = at; code = one; dest = rw q (over_snoc p 0 d) }

claim_nil : Claim []
unfolding move_all write_all
claim_nil p r d e d' h k =
    let f : e.full ≡ false = not_full e.full k in
    let en : encode (r ++ []) ≡ suc (length r) ∷ r = ap encode (append-nil r) ∙ encode-last r h.clean (omega (arith, h.few)) in
    record {
      length_is = rw (f, en, length-append p (suc (length r) ∷ r)) (omega (arith, h.place, h.code));
      bytes = rw (f, en, h.place, h.code) (coded p r d d' h.dest (suc (length r)));
    }

-- go on with the bytes that are left
onward : (m : List ℕ) → Claim m → (p r d s : List ℕ) (e : Encoder) (d' : List ℕ) → Mid p r d e.state d' → More e.full m
    → p ++ encode (r ++ m) ≡ s → End s d (move_all e m) (write_all e m d')
onward m ih p r d s e d' h k q = subst (λ (s : List ℕ). End s d (move_all e m) (write_all e m d')) q (ih p r d e d' h k)

-- a zero closes the group
claim_zero : (m : List ℕ) → Claim m → (p r d : List ℕ) (e : Encoder) (d' : List ℕ) → Mid p r d e.state d'
    → (e' : Encoder) → e'.state.place ≡ e.state.place + e.state.code → e'.state.code ≡ 1 → e'.full ≡ false
    → End (p ++ encode (r ++ 0 ∷ m)) d (move_all e' m) (write_all e' m (set d' e.state.place e.state.code))
claim_zero m ih p r d e d' h e' at one f =
    let q : List ℕ = p ++ suc (length r) ∷ r in
    onward m ih q [] d _ e' _
    (opens q d _ _ (omega (arith, h.place, h.code, length-append p (suc (length r) ∷ r))) one
    (rw (h.place, h.code) (coded p r d d' h.dest (suc (length r)))))
    (rw f (more-open m))
    (append_assoc p (suc (length r) ∷ r) (encode m)
    ∙ ap (λ (s : List ℕ). p ++ s) (sym (encode-cut r h.clean (omega (arith, h.few)) m)))

-- any other byte stands at the end of the open group
module _ (b : ℕ) (nz : b ≡ 0 → ⊥) (p r d : List ℕ) (e : Encoder) (d' : List ℕ) (h : Mid p r d e.state d') where
  grown : NoZero (r ++ b ∷ [])
  grown = no_zero_append r (b ∷ []) h.clean (omega arith, tt)

  grown-length : length (r ++ b ∷ []) ≡ e.state.code
  grown-length = omega (arith, length-append r (b ∷ []), h.code)

  dest-grown : set (set d' (e.state.place + e.state.code) b) (length p) 0 ≡ over (p ++ 0 ∷ (r ++ b ∷ [])) d
  dest-grown =
      let l : length (p ++ 0 ∷ r) ≡ e.state.place + e.state.code = omega (arith, length-append p (0 ∷ r), h.place, h.code) in
      set_comm d' (e.state.place + e.state.code) (length p) b 0 (λ w. omega (arith, w, h.place, h.code))
      ∙ rw (h.dest, ← l) (over_snoc (p ++ 0 ∷ r) b d ∙ ap (λ (s : List ℕ). over s d) (append_assoc p (0 ∷ r) (b ∷ [])))

  claim_add : (m : List ℕ) → Claim m → (e.state.code ≡ 254 → ⊥)
      → (e' : Encoder) → e'.state.place ≡ e.state.place → e'.state.code ≡ e.state.code + 1 → e'.full ≡ false
      → End (p ++ encode (r ++ b ∷ m)) d (move_all e' m) (write_all e' m (set d' (e.state.place + e.state.code) b))
  claim_add m ih k e' at one f =
      onward m ih p (r ++ b ∷ []) d _ e' _
      record {
        clean = grown;
        few = omega (arith, grown-length, h.code, h.few);
        place = at ∙ h.place;
        code = omega (arith, one, grown-length);
        dest = dest-grown;
      }
      (rw f (more-open m))
      (ap (λ (s : List ℕ). p ++ encode s) (append_assoc r (b ∷ []) m))

  -- it fills the group
  module _ (k : e.state.code ≡ 254) (e' : Encoder) (at : e'.state.place ≡ e.state.place + 255) (one : e'.state.code ≡ 1) (f : e'.full ≡ true) where
    abbrev whole : List ℕ
    whole = p ++ 255 ∷ (r ++ b ∷ [])

    abbrev left : List ℕ
    left = set (set d' (e.state.place + e.state.code) b) e.state.place 255

    left_is : left ≡ over whole d
    left_is = rw h.place (coded p (r ++ b ∷ []) d (set d' (length p + e.state.code) b) (rw h.place at dest-grown) 255)

    place_is : e'.state.place ≡ length whole
    place_is = omega (arith, at, length-append p (255 ∷ (r ++ b ∷ [])), grown-length, k, h.place)

    claim-full : (m : List ℕ) → Claim m → End (p ++ encode (r ++ b ∷ m)) d (move_all e' m) (write_all e' m left)
    unfolding move_all write_all
    claim-full [] ih =
        let en : encode (r ++ b ∷ []) ≡ 255 ∷ (r ++ b ∷ []) =
        encode-last (r ++ b ∷ []) grown (omega (arith, grown-length, k)) ∙ ap (λ (n : ℕ). suc n ∷ (r ++ b ∷ [])) (grown-length ∙ k) in
        record { length_is = rw (f, en) place_is; bytes = rw (f, en) left_is }
    claim-full (a ∷ m) ih =
        onward (a ∷ m) ih whole [] d _ e' left (opens whole d left _ place_is one left_is) tt
        (append_assoc p (255 ∷ (r ++ b ∷ [])) (encode (a ∷ m))
        ∙ ap (λ (s : List ℕ). p ++ s)
        (sym (encode-full (r ++ b ∷ []) grown (grown-length ∙ k) a m) ∙ ap encode (append_assoc r (b ∷ []) (a ∷ m))))

claim : (m : List ℕ) → Claim m
unfolding move_all write_all moved wrote
claim [] p r d e d' h k = claim_nil p r d e d' h k
claim (b ∷ m) p r d e d' h k =
    by-step
    (λ t. let e' : Encoder = record { state = t.1; full = closes_full t.0; count = e.count + 1 } in
    End (p ++ encode (r ++ b ∷ m)) d (move_all e' m) (write_all e' m (obeyed t.0 (e.state.place + e.state.code) d')))
    e.state b
    (λ z. rw z (claim_zero m (claim m) p r d e d' h _ refl refl refl))
    (λ nz f. claim-full b nz p r d e d' h f _ refl refl refl m (claim m))
    (λ nz nf. claim_add b nz p r d e d' h m (claim m) nf _ refl refl refl)

-- ---- from a fresh start

from-fresh : (m d : List ℕ) → End (encode m) d (move_all fresh m) (write_all fresh m d)
from-fresh m d = claim m [] [] d fresh d (opens [] d d fresh_state refl refl refl) (more-open m)

-- the finished length is the encoding's
pub finished-encode : (m : List ℕ) → finished_length (move_all fresh m) ≡ length (encode m)
finished-encode m = (from-fresh m []).length_is

-- the finished buffer is the encoding laid over what was there
pub closed-encode : (m d : List ℕ) → closed (move_all fresh m) (write_all fresh m d) ≡ over (encode m) d
closed-encode m d = (from-fresh m d).bytes
