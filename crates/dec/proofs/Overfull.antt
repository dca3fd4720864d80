-- A new decoder over a piece: TargetBufTooSmall exactly where a decoded byte has no room, and how many bytes that takes. Assumes nothing.
use Rattle.std.specs.Prelude.{Ok, Err}
use mathlib.Core.Path.{◌≡◌, refl, sym, ap, ◌∙◌}
use mathlib.Core.Bool.{false, false≢true}
use mathlib.Core.Logic.{⊎_elim}
use mathlib.Core.List.{List, [], ◌∷◌, ◌++◌}
use Prim.Native.Nat.{ℕ, zero, suc, ◌≤◌, ◌<◌}
use native.Mathlib.Decide.{dec_le}
use native.Mathlib.Omega.{arith}
use lib.ListN.{length, take}
use Rattle.cobs.specs.Answers.{target_buf_too_small}
use Rattle.cobs.specs.OneShot.{decoded}
use Rattle.dec.specs.State.{Given, stepped}
use Rattle.dec.specs.Stream.{new, skipping, Outcome, stops, is_more, piece_outcome, push_outcome}
use Rattle.dec.specs.Sentences.{Overfull}
use Rattle.dec.specs.declared.state.DecoderState.{DecoderState}
use Rattle.dec.specs.declared.state.DecoderState.TheVariants.{Idle, Grab, GrabChain}
use Rattle.dec.specs.declared.state.DecodeResult.TheVariants.{NoData, DataStart, DataComplete, DataContinue}
use Rattle.dec.proofs.Good.{new-good}
use Rattle.dec.proofs.Pieces.{push_piece}
use Rattle.dec.proofs.Counts.{piece_enough, piece_fewer}
use Rattle.dec.proofs.Bare.{End, going, whole, early, Run, onward, run}
use Rattle.dec.proofs.Frames.{ran, new-fits, new-small}
use Rattle.dec.proofs.Sources.{run_none, run-some, decoded-none, some-body}

-- ---- what a run gives is what `decode` gives

onward-out : (r : Given) (x y : Run) → x.out ≡ y.out → (onward r x).out ≡ (onward r y).out
onward-out (Ok NoData) x y e = e
onward-out (Ok DataStart) x y e = e
onward-out (Ok (DataContinue b)) x y e = ap (λ (l : List ℕ). b ∷ l) e
onward-out (Ok DataComplete) x y e = refl
onward-out (Err _) x y e = refl

-- a zero at the end gives nothing
out_zero : (src : List ℕ) (s : DecoderState) → (run s (src ++ 0 ∷ [])).out ≡ (run s src).out
unfolding run
out_zero [] Idle = refl
out_zero [] (Grab zero) = refl
out_zero [] (Grab (suc left)) = refl
out_zero [] (GrabChain zero) = refl
out_zero [] (GrabChain (suc left)) = refl
out_zero (b ∷ src) s =
    onward-out (stepped s b).result (run (stepped s b).state (src ++ 0 ∷ [])) (run (stepped s b).state src) (out_zero src (stepped s b).state)

run-decoded : (src : List ℕ) → (run Idle src).out ≡ decoded src
run-decoded src =
    sym (out_zero src Idle)
    ∙ ⊎_elim (λ e. ap (λ (r : Run). r.out) (run_none src e) ∙ sym (decoded-none src e)) (λ k. ap (λ (r : Run). r.out) (run-some src k)) (some-body src)

-- ---- the answer

ended-fits : (e : End) (o : List ℕ) (n : ℕ) (s : DecoderState) → (ran 0 (record { end = e; out = o; took = n; state = s })).answer.number ≡ 3 → ⊥
ended-fits going o n s q = omega (arith, q)
ended-fits whole o n s q = omega (arith, q)
ended-fits early o n s q = omega (arith, q)

module _ (room : ℕ) (p : List ℕ) where
  pub overfull-never : length (decoded p) ≤ room → (push_outcome new room p).answer.number ≡ 3 → ⊥
  overfull-never h q =
      let r : Run = run Idle p in
      ended-fits (run Idle p).end (run Idle p).out (run Idle p).took (run Idle p).state
      (ap (λ (o : Outcome). o.answer.number) (sym (new-fits p (run Idle p) refl room (rw (run-decoded p) h))) ∙ q)

  overfull-stops : room < length (decoded p) → (n : ℕ) × (push_outcome new room p ≡ stops skipping (target_buf_too_small n))
  overfull-stops h = new-small p (run Idle p) refl room (rw (run-decoded p) h)

-- the bytes that it takes: no fewer, since those ask for more
pub push-overfull : (room : ℕ) (p : List ℕ) → room < length (decoded p)
    → (n : ℕ) × Overfull room p n × (push_outcome new room p ≡ stops skipping (target_buf_too_small n))
push-overfull room p h =
    let w = overfull-stops room p h in
    let new-piece : (s : List ℕ) → push_outcome new room s ≡ piece_outcome new room s = push_piece new room (new-good room) in
    let is : piece_outcome new room p ≡ stops skipping (target_buf_too_small w.0) = sym (new-piece p) ∙ w.1 in
    let stopped : is_more (piece_outcome new room p) ≡ false = ap is_more is in
    let count : (piece_outcome new room p).answer.second ≡ w.0 = ap (λ (o : Outcome). o.answer.second) is in
    let enough : piece_outcome new room (take w.0 p) ≡ piece_outcome new room p =
    ap (λ (n : ℕ). piece_outcome new room (take n p)) (sym count) ∙ piece_enough p new room stopped in (
      w.0,
      record {
        over =
            elim (dec_le (length (decoded (take w.0 p))) room) [
              | yes f ↦ absurd (overfull-never room (take w.0 p) f (ap (λ (o : Outcome). o.answer.number) (new-piece (take w.0 p) ∙ enough ∙ is)))
              | no f ↦ omega arith
            ];
        fewer = λ k l.
            elim (dec_le (length (decoded (take k p))) room) [
              | yes f ↦ f
              | no f ↦
                  let v = overfull-stops room (take k p) (omega arith) in
                  absurd (false≢true (sym (ap is_more (sym (new-piece (take k p)) ∙ v.1)) ∙ piece_fewer p new room stopped k (rw count l)))
            ];
      },
      w.1,
    )
