-- A frame's message record by record, one law for each way through the loop that checks it. Assumes nothing.
use Rattle.std.proofs.Common.{◌≡◌, ℕ, suc, ◌+◌, ◌-◌, ◌*◌, ◌/◌, ◌%◌, ◌<◌, ◌≤◌, true, false, not, ◌||◌, eqb, List, length, drop, Result, Ok, Err, is_err, true≢false, sym, ap, ◌∙◌, arith, drop-drop, add-one, ltb-false, eqb-true, if◌then◌else◌}
use borrow.Author.Tests.{eqb-false, not-false}
use Rattle.std.proofs.lemmas.Bool.{or_parts}
use Rattle.cobs.specs.Words.{◌exceeds◌}
use Rattle.cobs.specs.Answers.{done, bad_record}
use Rattle.record.specs.Record.{is_record, read_of}
use Rattle.record.specs.Frame.{is_bad_length, records_told}
use Rattle.record.specs.declared.Record.{Record}
use Rattle.record.specs.declared.BadRecord.{BadRecord}
use Rattle.record.proofs.Round.{read_is, read_not}

-- ---- the length

-- what a length that is not bad is
pub record Whole (n : ℕ) : Type 0 where
  pub some : 0 < n
  pub short : n ≤ 240
  pub even : n % 16 ≡ 0

pub whole : (n : ℕ) → is_bad_length 16 240 n ≡ false → Whole n
unfolding is_bad_length
whole n e =
    let p = or_parts (eqb n 0 || (n exceeds 240)) (not (eqb (n % 16) 0)) e in
    let q = or_parts (eqb n 0) (n exceeds 240) p.0 in
    let none = eqb-false n 0 q.0 in
    record { some = omega arith; short = ltb-false 240 n q.1; even = eqb-true (n % 16) 0 (not-false (eqb (n % 16) 0) p.1) }

-- ---- the records

-- What is left of a message from record k on.
abbrev pub Left : (m : List ℕ) (k : ℕ) → Type 0
Left m k = records_told 16 (length m / 16) 0 m ≡ records_told 16 (length m / 16 - k) k (drop (k * 16) m)

turn : (m : List ℕ) (k : ℕ) → k < length m / 16 → records_told 16 (length m / 16 - k) k (drop (k * 16) m)
    ≡ (if is_record 0 (drop (k * 16) m) then records_told 16 (length m / 16 - (k + 1)) (k + 1) (drop ((k + 1) * 16) m) else bad_record k)
unfolding records_told
turn m k h =
    let n : length m / 16 - k ≡ suc (length m / 16 - (k + 1)) = omega arith in
    let next : (k + 1) * 16 ≡ k * 16 + 16 = omega arith in
    rw (n, next, ← drop-drop 16 (k * 16) m, add-one)

module _ (m : List ℕ) (k : ℕ) (c : Left m k) (h : k < length m / 16) (a : Result Record BadRecord) (ea : a ≡ read_of 0 (drop (k * 16) m)) where
  pub left-more : is_err a ≡ false → Left m (k + 1)
  left-more e = c ∙ turn m k h ∙ rw (good a ea e)
    where
      good : (a : Result Record BadRecord) → a ≡ read_of 0 (drop (k * 16) m) → is_err a ≡ false → is_record 0 (drop (k * 16) m) ≡ true
      good (Ok r) ea e = read_is (drop (k * 16) m) r (sym ea)
      good (Err _) ea e = absurd (true≢false e)

  pub left-bad : is_err a ≡ true → bad_record k ≡ records_told 16 (length m / 16) 0 m
  left-bad e = sym (c ∙ turn m k h ∙ rw (bad a ea e))
    where
      bad : (a : Result Record BadRecord) → a ≡ read_of 0 (drop (k * 16) m) → is_err a ≡ true → is_record 0 (drop (k * 16) m) ≡ false
      bad (Ok r) ea e = absurd (true≢false (sym e))
      bad (Err _) ea e = read_not (drop (k * 16) m) (sym ea)

pub left-none : (m : List ℕ) (k : ℕ) → Left m k → length m / 16 ≤ k → done 0 0 ≡ records_told 16 (length m / 16) 0 m
unfolding records_told
left-none m k c h = sym (c ∙ ap (λ (n : ℕ). records_told 16 n k (drop (k * 16) m)) {x = length m / 16 - k} {y = 0} (omega arith))
