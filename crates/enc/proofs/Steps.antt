-- One byte: the three ways it goes, and what each does to the state and the buffer. Assumes nothing.
use Rattle.std.specs.Prelude.{Ok, if◌then◌else◌}
use mathlib.Core.Path.{◌≡◌, refl, ap, ◌∙◌}
use mathlib.Core.Bool.{Bool, true, false, false≢true}
use mathlib.Core.List.{List}
use Prim.Native.Nat.{ℕ, ◌+◌, ◌*◌, ◌≤◌, ◌<◌}
use native.Mathlib.Omega.{arith}
use lib.ListN.{length, drop, set, length-set}
use lib.Seq.{drop-set-lt}
use borrow.Author.Tests.{eq-eqb, ne_eqb, eqb-false, ltb-false, le-ltb}
use Rattle.enc.specs.State.{opened, asking, step, no_code, state_bad, state_push, told_asked, state_push_told}
use Rattle.enc.specs.Stream.{obeyed, closes_full, moved, wrote, finished_length}
use Rattle.enc.specs.declared.state.EncoderState.{EncoderState}
use Rattle.enc.specs.declared.state.PushResult.TheVariants.{AddSingle, ModifyFromStartAndSkip, ModifyFromStartAndPushAndSkip}
use Rattle.enc.specs.declared.state.PushResult.{PushResult}
use Rattle.enc.specs.declared.state.StatePushed.{StatePushed}
use Rattle.enc.specs.declared.stream.Encoder.{Encoder}
use Rattle.enc.proofs.Deciding.{by_eq, neither, Refutes}

-- ---- which states are accepted

-- Code 1 to 254.
pub record InGroup (code : ℕ) : Type 0 where
  pub some : 0 < code
  pub few : code ≤ 254

pub in_group : (code : ℕ) → Refutes (no_code code) (InGroup code)
in_group code =
    record {
      holds = λ e. let n = neither _ _ e in record { some = let z = eqb-false code 0 n.0 in omega arith; few = ltb-false 254 code n.1 };
      none = λ g. rw (ne_eqb code 0 (omega arith), le-ltb 254 code g.few);
    }

pub record Sound (s : EncoderState) : Type 0 where
  pub group : InGroup s.code
  pub low : s.place ≤ 0xffff_ffff_ffff_ff00

pub sound : (s : EncoderState) → Refutes (state_bad s) (Sound s)
unfolding state_bad
sound s =
    record {
      holds = λ e. let n = neither _ _ e in record { group = (in_group s.code).holds n.0; low = ltb-false _ _ n.1 };
      none = λ g. rw ((in_group s.code).none g.group, le-ltb 0xffff_ffff_ffff_ff00 s.place g.low);
    }

pub sound-push : (s : EncoderState) (b : ℕ) → Sound s → state_push s b ≡ asking (Ok (step s b).0) (step s b).1
unfolding state_push
sound-push s b g = rw ((sound s).none g)

pub asked-is : (s : EncoderState) (b : ℕ) → Sound s → (p : StatePushed) → p ≡ state_push s b → p.result ≡ Ok (step s b).0
asked-is s b g p e = ap (λ (q : StatePushed). q.result) (e ∙ sound-push s b g)

pub next-is : (s : EncoderState) (b : ℕ) → Sound s → (p : StatePushed) → p ≡ state_push s b → p.next ≡ (step s b).1
next-is s b g p e = ap (λ (q : StatePushed). q.next) (e ∙ sound-push s b g)

-- ---- what holds of the three ways holds of a step

pub by-step : (P : PushResult × EncoderState → Type 0) (s : EncoderState) (b : ℕ)
    → (b ≡ 0 → P (ModifyFromStartAndSkip s.place s.code, opened (s.place + s.code) 1))
    → ((b ≡ 0 → ⊥) → s.code ≡ 254 → P (ModifyFromStartAndPushAndSkip s.place 255 b, opened (s.place + 255) 1))
    → ((b ≡ 0 → ⊥) → (s.code ≡ 254 → ⊥) → P (AddSingle b, opened s.place (s.code + 1)))
    → P (step s b)
unfolding step
by-step P s b skip full add =
    by_eq b 0 (λ z. rw (eq-eqb b 0 z) (skip z))
    (λ nz. by_eq s.code 254
    (λ f. rw (ne_eqb b 0 nz, eq-eqb s.code 254 f) (full nz f))
    (λ nf. rw (ne_eqb b 0 nz, ne_eqb s.code 254 nf) (add nz nf)))

-- what each way asks, told
pub step-told : (s : EncoderState) (b : ℕ) → state_bad s ≡ false → (r : PushResult × EncoderState) → r ≡ step s b → told_asked (Ok r.0) ≡ state_push_told s b
unfolding state_push_told
step-told s b g r q =
    rw q
    (by-step (λ p. told_asked (Ok p.0) ≡ state_push_told s b) s b (λ z. rw (g, eq-eqb b 0 z))
    (λ nz f. rw (g, ne_eqb b 0 nz, eq-eqb s.code 254 f)) (λ nz nf. rw (g, ne_eqb b 0 nz, ne_eqb s.code 254 nf)))

module _ (e : Encoder) (b : ℕ) where
  abbrev after : EncoderState → Bool → Encoder
  after s full = record { state = s; full = full; count = e.count + 1 }

  pub moved_zero : b ≡ 0 → after (opened (e.state.place + e.state.code) 1) false ≡ moved e b
  unfolding moved step
  moved_zero z = rw (eq-eqb b 0 z)

  pub moved-full : (b ≡ 0 → ⊥) → e.state.code ≡ 254 → after (opened (e.state.place + 255) 1) true ≡ moved e b
  unfolding moved step
  moved-full nz f = rw (ne_eqb b 0 nz, eq-eqb e.state.code 254 f)

  pub moved_add : (b ≡ 0 → ⊥) → (e.state.code ≡ 254 → ⊥) → after (opened e.state.place (e.state.code + 1)) false ≡ moved e b
  unfolding moved step
  moved_add nz nf = rw (ne_eqb b 0 nz, ne_eqb e.state.code 254 nf)

  -- a byte adds one to the place and the code together, whatever it is
  pub finished-moved : finished_length (moved e b) ≡ e.state.place + e.state.code + 1
  unfolding moved
  finished-moved =
      by-step
      (λ p. (if closes_full p.0 then p.1.place else p.1.place + p.1.code) ≡ e.state.place + e.state.code + 1)
      e.state b (λ z. refl) (λ nz f. omega arith) (λ nz nf. omega arith)

  pub group-moved : InGroup e.state.code → InGroup (moved e b).state.code
  unfolding moved
  group-moved g =
      by-step (λ p. InGroup p.1.code) e.state b (λ z. record { some = omega arith; few = omega arith })
      (λ nz f. record { some = omega arith; few = omega arith })
      (λ nz nf. record { some = omega arith; few = omega (arith, g.few) })

  -- a just-closed full group has code 1
  pub one-moved : (moved e b).full ≡ true → (moved e b).state.code ≡ 1
  unfolding moved
  one-moved =
      by-step (λ p. closes_full p.0 ≡ true → p.1.code ≡ 1) e.state b (λ z q. refl) (λ nz f q. refl)
      (λ nz nf q. absurd (false≢true q))

  -- a full group adds one more
  pub sum_moved : (moved e b).state.place + (moved e b).state.code ≤ e.state.place + e.state.code + 2
  unfolding moved
  sum_moved =
      by-step (λ p. p.1.place + p.1.code ≤ e.state.place + e.state.code + 2) e.state b (λ z. omega arith)
      (λ nz f. omega arith) (λ nz nf. omega arith)

  -- and no two full groups are less than 254 bytes apart
  pub most-moved : 254 * ((moved e b).state.place + (moved e b).state.code) + (moved e b).state.code
      ≤ 254 * (e.state.place + e.state.code) + e.state.code + 255
  unfolding moved
  most-moved =
      by-step
      (λ p. 254 * (p.1.place + p.1.code) + p.1.code ≤ 254 * (e.state.place + e.state.code) + e.state.code + 255)
      e.state b (λ z. omega arith) (λ nz f. omega arith) (λ nz nf. omega arith)

  module _ (d : List ℕ) where
    pub length-wrote : length (wrote e b d) ≡ length d
    unfolding wrote
    length-wrote =
        by-step (λ p. length (obeyed p.0 (e.state.place + e.state.code) d) ≡ length d) e.state b
        (λ z. simp length-set) (λ nz f. simp length-set) (λ nz nf. simp length-set)

    -- what stands from the finished length on is not written
    pub rest-wrote : (n : ℕ) → 0 < e.state.code → finished_length (moved e b) ≤ n → drop n (wrote e b d) ≡ drop n d
    unfolding wrote
    rest-wrote n h k =
        let l : e.state.place + e.state.code < n = omega (arith, finished-moved) in
        by-step (λ p. drop n (obeyed p.0 (e.state.place + e.state.code) d) ≡ drop n d) e.state b
        (λ z. drop-set-lt n d _ _ (omega arith))
        (λ nz f. drop-set-lt n (set d (e.state.place + e.state.code) b) _ _ (omega arith) ∙ drop-set-lt n d _ _ l)
        (λ nz nf. drop-set-lt n d _ _ l)
