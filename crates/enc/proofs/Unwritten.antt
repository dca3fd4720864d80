-- No piece writes to the place of the code that is open after it. Assumes nothing.
use Rattle.std.specs.Prelude.{if◌then◌else◌}
use mathlib.Core.Path.{◌≡◌, refl, ◌∙◌}
use mathlib.Core.List.{List, [], ◌∷◌}
use Prim.Native.Nat.{ℕ, ◌+◌, ◌≤◌}
use native.Mathlib.Omega.{arith}
use lib.ListN.{length, set, get_or}
use lib.Seq.{get_or-set_other}
use Rattle.cobs.specs.Answers.{is_done}
use Rattle.enc.specs.Stream.{obeyed, moved, wrote, move_all, write_all, push_next, push_dest}
use Rattle.enc.specs.declared.state.EncoderState.{EncoderState}
use Rattle.enc.specs.declared.stream.Encoder.{Encoder}
use Rattle.enc.proofs.Deciding.{by_eq}
use Rattle.enc.proofs.Steps.{InGroup, by-step, group-moved}
use Rattle.enc.proofs.Calls.{by-push}

-- Where the next byte goes.
abbrev end : Encoder → ℕ
end e = e.state.place + e.state.code

-- A place that is the open code's, or behind what is written.
abbrev Free : (at : ℕ) → EncoderState → Type 0
Free at s = (at ≡ s.place → ⊥) → s.place + s.code ≤ at

module _ (at : ℕ) (e : Encoder) (b : ℕ) where
  -- what is free after a byte was free before it
  free_before : Free at (moved e b).state → Free at e.state
  unfolding moved
  free_before =
      by-step (λ t. Free at t.1 → Free at e.state) e.state b
      (λ z k n. by_eq at (end e) (λ w. omega (arith, w)) (λ w. omega (arith, k w)))
      (λ nz f k n. by_eq at (e.state.place + 255) (λ w. omega (arith, w, f)) (λ w. omega (arith, k w, f)))
      (λ nz nf k n. omega (arith, k n))

  -- and the byte is not written there
  free_kept : InGroup e.state.code → (d : List ℕ) → Free at (moved e b).state → get_or (wrote e b d) at 0 ≡ get_or d at 0
  unfolding moved wrote
  free_kept g d =
      by-step (λ t. Free at t.1 → get_or (obeyed t.0 (end e) d) at 0 ≡ get_or d at 0) e.state b
      (λ z k. get_or-set_other d e.state.place at _ 0 (λ w. omega (arith, w, g.some, k (λ v. omega (arith, v, w, g.some)))))
      (λ nz f k. get_or-set_other (set d (end e) b) e.state.place at _ 0 (λ w. omega (arith, w, k (λ v. omega (arith, v, w))))
      ∙ get_or-set_other d (end e) at b 0 (λ w. omega (arith, w, f, k (λ v. omega (arith, v, w, f)))))
      (λ nz nf k. get_or-set_other d (end e) at b 0 (λ w. omega (arith, w, g.some, k (λ v. omega (arith, v, w, g.some)))))

last_free : (e : Encoder) (p : List ℕ) → Free (move_all e p).state.place e.state
unfolding move_all
last_free e [] = λ n. absurd (n refl)
last_free e (b ∷ p) = free_before _ e b (last_free (moved e b) p)

open_kept : (e : Encoder) (p d : List ℕ) → InGroup e.state.code
    → get_or (write_all e p d) (move_all e p).state.place 0 ≡ get_or d (move_all e p).state.place 0
unfolding move_all write_all
open_kept e [] d g = refl
open_kept e (b ∷ p) d g = open_kept (moved e b) p (wrote e b d) (group-moved e b g) ∙ free_kept _ e b g d (last_free (moved e b) p)

pub open_pushed : (e : Encoder) (p d : List ℕ)
    → get_or (push_dest e p d) (push_next e p (length d)).state.place 0 ≡ get_or d (push_next e p (length d)).state.place 0
unfolding push_next push_dest
open_pushed e p d =
    by-push
    (λ t. let e' = if is_done t then move_all e p else e in get_or (if is_done t then write_all e p d else d) e'.state.place 0 ≡ get_or d e'.state.place 0)
    e p (length d) (λ h. refl) (λ g h. refl) (λ g h k. refl) (λ g h k. open_kept e p d g.group)
