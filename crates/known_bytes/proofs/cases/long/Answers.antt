use Rattle.std.proofs.Common.{ℕ, ◌≤◌, length, replicate, arith}
use Rattle.std.proofs.lemmas.List.{length-replicate}
use Rattle.known_bytes.proofs.cases.long.Goals as goal

-- Of any number: computed, the length of so many zeros runs out of stack.
within : (n m : ℕ) → n ≤ m → n ≤ length (replicate {A = ℕ} m 0)
within n m h = omega (arith, length-replicate {0} {A = ℕ} m 0)

pub slice_bounds-answer-end : goal.slice_bounds-answer-end
slice_bounds-answer-end g c = within _ 1_048_577 c.if-length-gt-MOST_ZEROS.false
