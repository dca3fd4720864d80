-- The pattern for "two results that meet the promise are equal": what tells an answer can be read back. Assumes nothing.
use mathlib.Core.Path.{◌≡◌, sym, ap, ◌∙◌}
use mathlib.Core.Logic.{◌≢◌}
use Prim.Native.Nat.{ℕ}
use Rattle.cobs.specs.Answers.{Told, tell}

-- A function that another undoes takes equal values from equal arguments alone.
pub same-told {ℓ} : {A B : Type ℓ} (told : A → B) (back : B → A) → ((a : A) → back (told a) ≡ a) → {a b : A} → told a ≡ told b → a ≡ b
same-told told back undone {a} {b} e = sym (undone a) ∙ ap back e ∙ undone b

-- Two results of one promise: each is told the same.
pub one-result {ℓ} : {A B : Type ℓ} (told : A → B) (back : B → A) → ((a : A) → back (told a) ≡ a)
    → {a b : A} {t : B} → told a ≡ t → told b ≡ t → a ≡ b
one-result told back undone p q = same-told told back undone (p ∙ sym q)

-- Answers of two numbers are two answers.
pub unlike : {a b : Told} → a ≡ b → a.number ≢ b.number → ⊥
unlike e n = n (ap (λ (t : Told). t.number) e)

-- A number and two values that cross the C boundary by themselves: what is told fixes all three.
pub record Same (r s a b c d : ℕ) : Type 0 where
  pub number : r ≡ s
  pub first : a ≡ b
  pub second : c ≡ d

pub same : {r s a b c d : ℕ} {t : Told} → tell r a c ≡ t → tell s b d ≡ t → Same r s a b c d
same p q =
    let e = p ∙ sym q in
    record { number = ap (λ (t : Told). t.number) e; first = ap (λ (t : Told). t.first) e; second = ap (λ (t : Told). t.second) e }
