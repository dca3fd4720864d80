-- The receiving loop over any bytes that end in a zero: the decoder is new; and where every answer is a refusal, the taker's state is
-- as it was. Assumes nothing.
use mathlib.Core.Path.{◌≡◌, refl, ap, ◌∙◌}
use mathlib.Core.Logic.{◌≢◌}
use mathlib.Core.Bool.{false}
use mathlib.Core.List.{List, [], ◌∷◌, ◌++◌}
use Prim.Native.Nat.{ℕ, ◌≤◌}
use native.Mathlib.Omega.{arith}
use lib.Dec.{eqb}
use lib.ListN.{length, take}
use borrow.Author.Tests.{eqb-true}
use Rattle.cobs.specs.Answers.{Told, more, is_done}
use Rattle.dec.specs.Stream.{Outcome, new, push_outcome, push_dest}
use Rattle.dec.proofs.Cases.{by_bool}
use Rattle.dec.proofs.Restart.{through, through_zero}
use Rattle.wire.specs.Again.{Received, Run, heard}
use Rattle.wire.specs.Loop.{Side, Taker, hand_on, received}
use Rattle.wire.specs.Noise.{AllRefused}
use Rattle.wire.proofs.Loop.{Good, received-good, by_bytes, length_push}

module _ {S View : Type 0} (taker : Taker S View) (Fine : S → Type 0) (fit : (s : S) → Fine s → taker.is_bad s ≡ false)
    (keeps : (s : S) (f : List ℕ) → Fine s → Fine (taker.after s f)) where
  -- from good states a call is a push, and what is handed on
  received-push : (w : Side S) → Good taker Fine fit keeps w → (p : List ℕ)
      → received taker w p ≡ hand_on taker (push_outcome w.decoder (length w.buffer) p) (push_dest w.decoder p w.buffer) w.state p
  unfolding received
  received-push w g p = rw (g.decoding, fit w.state g.taking)

  heard-side : (t : Told) (v : View) (r : Run (Side S) View) → (heard t v r).side ≡ r.side
  heard-side t v r = by_bool (eqb t.number more.number) (λ e. rw e) (λ e. rw e)

  -- the decoder goes through the bytes, and its buffer stays as long as it is
  pub record Through (w v : Side S) (s : List ℕ) : Type 0 where
    pub decoder : v.decoder ≡ through w.decoder (length w.buffer) s
    pub long : length v.buffer ≡ length w.buffer

  pub bytes-through : (s : List ℕ) (w : Side S) → Good taker Fine fit keeps w → Through w (by_bytes taker Fine fit keeps w s).side s
  unfolding by_bytes through
  bytes-through [] w g = record { decoder = refl; long = refl }
  bytes-through (b ∷ s) w g =
      let r : Received (Side S) = received taker w (b ∷ []) in
      let e : r ≡ _ = received-push w g (b ∷ []) in
      let l : length r.side.buffer ≡ length w.buffer = ap (λ (x : Received (Side S)). length x.side.buffer) e ∙ length_push w.decoder (b ∷ []) w.buffer in
      let go = bytes-through s r.side (received-good taker Fine fit keeps w g (b ∷ [])) in
      rw (heard-side r.answer (taker.shows r.side.state) (by_bytes taker Fine fit keeps r.side s))
      (record {
        decoder = go.decoder ∙ rw (l, e) refl;
        long = go.long ∙ l;
      })

  pub bytes_zero : (s : List ℕ) (w : Side S) → Good taker Fine fit keeps w → (by_bytes taker Fine fit keeps w (s ++ 0 ∷ [])).side.decoder ≡ new
  bytes_zero s w g = (bytes-through (s ++ 0 ∷ []) w g).decoder ∙ through_zero s w.decoder (length w.buffer) g.decoding

  -- ---- where every answer is a refusal

  module _ (answers : (s : S) (f : List ℕ) → (taker.says s f).number ≢ more.number)
      (refused : (s : S) (f : List ℕ) → (taker.says s f).number ≤ 13 → taker.after s f ≡ s) where
    hand-kept : (o : Outcome) (buffer : List ℕ) (s : S) (p : List ℕ)
        → ((hand_on taker o buffer s p).answer.number ≢ 14 → (hand_on taker o buffer s p).answer.number ≤ 13) → (hand_on taker o buffer s p).side.state ≡ s
    hand-kept o buffer s p =
        let f : List ℕ = take o.answer.first buffer in
        by_bool (is_done o.answer) (λ e. rw e (λ h. refused s f (h (answers s f)))) (λ e. rw e (λ h. refl))

    received-kept : (w : Side S) → Good taker Fine fit keeps w → (p : List ℕ) → ((received taker w p).answer.number ≢ 14 → (received taker w p).answer.number ≤ 13)
        → (received taker w p).side.state ≡ w.state
    received-kept w g p =
        rw (received-push w g p) (hand-kept (push_outcome w.decoder (length w.buffer) p) (push_dest w.decoder p w.buffer) w.state p)

    pub bytes-kept : (s : List ℕ) (w : Side S) → Good taker Fine fit keeps w → AllRefused (by_bytes taker Fine fit keeps w s).said
        → (by_bytes taker Fine fit keeps w s).side.state ≡ w.state
    unfolding by_bytes
    bytes-kept [] w g = λ h. refl
    bytes-kept (b ∷ s) w g =
        let r : Received (Side S) = received taker w (b ∷ []) in
        let go = bytes-kept s r.side (received-good taker Fine fit keeps w g (b ∷ [])) in
        by_bool (eqb r.answer.number more.number)
        (λ e. rw e (λ h. go h ∙ received-kept w g (b ∷ []) (λ n. absurd (n (eqb-true r.answer.number 14 e)))))
        (λ e. rw e (λ h. go h.1 ∙ received-kept w g (b ∷ []) (λ n. omega (arith, h.0))))
