-- A body group by group: what is read so far, and what a short group, a last one and one before more come to. Assumes nothing.
use Rattle.std.specs.Prelude.{Option, Some, None}
use Rattle.std.specs.Option.{unwrap_or}
use Rattle.std.specs.List.{position_or_len}
use Rattle.std.proofs.lemmas.List.Recursion.{is_position_or_len}
use mathlib.Core.Path.{◌≡◌, refl, sym, ap, ◌∙◌}
use mathlib.Core.Bool.{true, false, cond}
use mathlib.Core.List.{List, [], ◌∷◌, ◌++◌, append_assoc, append-nil}
use Prim.Native.Nat.{ℕ, zero, suc, pred, ◌+◌, ◌-◌, ◌≤◌, ◌<◌, zero-le, suc-le-suc}
use native.Mathlib.Nat.{not-suc-le-zero, le_of_suc-le-suc, le_refl}
use native.Mathlib.Omega.{arith}
use lib.Dec.{eqb, ltb}
use lib.Bits.{bit_xor, xor_self, xor_zero_l, xor_zero_r}
use lib.ListN.{length, get_or, take, drop, length-drop, take-append-drop}
use lib.Seq.{drop-drop, length-take-le, take_all}
use borrow.Author.Tests.{eqb-true, eqb-false, ltb-false}
use Rattle.cobs.specs.Code.{body, Reading, cut, ended, onto, zero_after, read, masked}
use Rattle.cobs.proofs.Reading.{read_short, read-last, read_more}
use Rattle.cobs.proofs.Bodies.{length-body}
use Rattle.cobs.proofs.Sentinel.{xor_twice, length-masked}
use Rattle.dec.proofs.Cases.{by_bool, drop-next}

-- ---- the search for the body's end

-- the body ends where the sentinel first stands
body-first : (sentinel b : ℕ) (s : List ℕ) → length (body (masked sentinel (b ∷ s))) ≡ cond (eqb b sentinel) 0 (1 + length (body (masked sentinel s)))
body-first sentinel b s =
    by_bool (eqb b sentinel) (λ q. let e : b ≡ sentinel = eqb-true b sentinel q in rw (q, e, xor_self sentinel))
    (λ q. rw q (other (bit_xor b sentinel) (masked sentinel s) (λ e. eqb-false b sentinel q (sym (xor_twice b sentinel) ∙ ap (λ (y : ℕ). bit_xor y sentinel) e ∙ xor_zero_l sentinel))))
  where
    other : (x : ℕ) (t : List ℕ) → (x ≡ 0 → ⊥) → length (body (x ∷ t)) ≡ 1 + length (body t)
    other zero t n = absurd (n refl)
    other (suc x) t n = omega arith

-- so what `position` finds, or the length, is how long it is
pub end-found : (sentinel : ℕ) (buf : List ℕ) (o : Option ℕ)
    → o ≡ cond (ltb (position_or_len (λ b. eqb b sentinel) buf) (length buf)) (Some (position_or_len (λ b. eqb b sentinel) buf)) None
    → unwrap_or o (length buf) ≡ length (body (masked sentinel buf))
end-found sentinel buf o e =
    let p : ℕ = position_or_len (λ b. eqb b sentinel) buf in
    let q : length (body (masked sentinel buf)) ≡ p = is_position_or_len (λ s. length (body (masked sentinel s))) (λ b. eqb b sentinel) refl (body-first sentinel) buf in
    by_bool (ltb p (length buf)) (λ t. rw (e, t) (sym q))
    (λ t. rw (e, t) (omega (arith, ltb-false p (length buf) t, q, length-body (masked sentinel buf), length-masked sentinel buf)))

-- zeros are looked for as they stand
pub masked_zero : (s : List ℕ) → masked 0 s ≡ s
masked_zero [] = refl
masked_zero (b ∷ s) = rw (xor_zero_r b, masked_zero s)

-- the body stands at the front
pub body-take : (s : List ℕ) → take (length (body s)) s ≡ body s
body-take [] = refl
body-take (zero ∷ s) = refl
body-take (suc b ∷ s) = ap (λ (t : List ℕ). suc b ∷ t) (body-take s)

pub body-positive : (s : List ℕ) (i : ℕ) → i < length (body s) → 0 < get_or (body s) i 0
body-positive [] i h = absurd (not-suc-le-zero h)
body-positive (zero ∷ s) i h = absurd (not-suc-le-zero h)
body-positive (suc b ∷ s) zero h = suc-le-suc zero-le
body-positive (suc b ∷ s) (suc i) h = body-positive s i (le_of_suc-le-suc h)

-- ---- group by group

pub one_zero : (c : ℕ) → length (zero_after c) ≤ 1
one_zero c = by_bool (eqb c 255) (λ e. rw e zero-le) (λ e. rw e (le_refl 1))

-- The groups of the body b before `from`, with their zeros, gave these bytes.
pub record Reached (b : List ℕ) (from : ℕ) (got : List ℕ) : Type 0 where
  pub within : from < length b
  pub groups : got ++ (read (drop from b)).groups ≡ (read b).groups
  pub whole : (read (drop from b)).whole ≡ (read b).whole

pub reached-none : (b : List ℕ) → 0 < length b → Reached b 0 []
reached-none b h = record { within = h; groups = refl; whole = refl }

module _ (b : List ℕ) (from : ℕ) (got : List ℕ) (r : Reached b from got) (c : ℕ) (ec : c ≡ get_or b from 0) (pos : 0 < c) where
  -- what stands after the code
  abbrev after : List ℕ
  after = drop (from + 1) b

  here : drop from b ≡ c ∷ after
  here = drop-next b from r.within ∙ ap (λ (x : ℕ). x ∷ after) (sym ec)

  length-after : length after ≡ length b - (from + 1)
  length-after = simp length-drop

  ends : (x : Reading) → read (c ∷ after) ≡ x → ((read b).groups ≡ got ++ x.groups) × ((read b).whole ≡ x.whole)
  ends x e =
      let q : read (drop from b) ≡ x = ap read here ∙ e in
      (sym r.groups ∙ ap (λ (y : Reading). got ++ y.groups) q, sym r.whole ∙ ap (λ (y : Reading). y.whole) q)

  pub at-short : length b - from < c → ((read b).groups ≡ got) × ((read b).whole ≡ false)
  at-short h =
      let e = ends (cut after) (read_short c after (omega (arith, length-after))) in
      (e.0 ∙ append-nil got, e.1)

  module _ (n : ℕ) (en : n ≡ c - 1) where
    pub at_last : from + 1 + n ≡ length b → ((read b).groups ≡ got ++ take n after) × ((read b).whole ≡ true)
    at_last h =
        let e = ends (ended after) (read-last c after (omega (arith, length-after))) in
        (e.0 ∙ ap (λ (s : List ℕ). got ++ s) (sym (take_all n after (omega (arith, length-after)))), e.1)

    pub at_more : from + 1 + n < length b → Reached b (from + 1 + n) (got ++ (take n after ++ zero_after c))
    at_more h =
        let rest : List ℕ = drop (from + 1 + n) b in
        let d : ℕ = get_or b (from + 1 + n) 0 in
        let s : List ℕ = drop (from + 1 + n + 1) b in
        let next : drop (from + 1 + n) b ≡ d ∷ s = drop-next b (from + 1 + n) h in
        let parts : after ≡ take n after ++ d ∷ s =
        sym (take-append-drop n after) ∙ ap (λ (l : List ℕ). take n after ++ l) (drop-drop n (from + 1) b ∙ next) in
        let k : length (take n after) ≡ pred c = length-take-le n after (omega (arith, length-after)) ∙ omega arith in
        let e = ends (onto (take n after ++ zero_after c) c (read rest))
        (ap (λ (l : List ℕ). read (c ∷ l)) parts ∙ read_more c (take n after) k d s ∙ ap (λ (l : List ℕ). onto (take n after ++ zero_after c) c (read l)) (sym next)) in
        record {
          within = h;
          groups = append_assoc got (take n after ++ zero_after c) (read rest).groups ∙ sym e.0;
          whole = sym e.1;
        }
