-- The receiving loop over any bytes, whatever takes the frames: where the bytes are cut changes no answer, state or byte.
-- Assumes nothing.
use mathlib.Core.Path.{◌≡◌, refl, sym, ap, ap₂, ◌∙◌, subst}
use mathlib.Core.Logic.{◌≢◌}
use mathlib.Core.Bool.{true, false}
use mathlib.Core.List.{List, [], ◌∷◌, ◌++◌}
use Prim.Native.Nat.{ℕ, zero, suc, ◌≤◌, suc-le-suc, zero-le}
use native.Mathlib.Nat.{not-suc-le-zero, le_of_suc-le-suc, le_refl}
use native.Mathlib.Omega.{arith}
use lib.Dec.{eqb}
use lib.ListN.{length, take, drop, length-drop}
use Rattle.cobs.specs.Answers.{Told, more, is_done}
use Rattle.dec.specs.Stream.{Outcome, is_more, bad, byte_outcome, byte_dest, further, piece_outcome, piece_dest, push_dest}
use Rattle.dec.specs.declared.stream.CobsDecoder.{CobsDecoder}
use Rattle.dec.proofs.Cases.{by_bool}
use Rattle.dec.proofs.Good.{good_of, of-good, good-byte, push-good}
use Rattle.dec.proofs.Pieces.{length-byte, length-piece, piece-goes, piece-stops, dest-goes, dest-stops, byte-goes, further-keeps, further-counts, push-piece, push_dest-piece}
use Rattle.dec.proofs.Restart.{byte-counts, used-within}
use Rattle.wire.specs.Again as again
use Rattle.wire.specs.Again.{Received, Said, Run, stopped, heard, and_then, joined}
use Rattle.wire.specs.Loop.{Side, Taker, hand_on, received, called, seen, run, drive}

pub length_push : (d : CobsDecoder) (p m : List ℕ) → length (push_dest d p m) ≡ length m
unfolding push_dest
length_push d p m = by_bool (bad d (length m)) (λ q. rw q) (λ q. rw q (length-piece p d (length m) m))

-- A call takes no more than its piece, from any states.
pub taken-within : {S View : Type 0} (taker : Taker S View) (w : Side S) (p : List ℕ) → (received taker w p).consumed ≤ length p
unfolding received
taken-within taker w p =
    by_bool (bad w.decoder (length w.buffer)) (λ q. rw q zero-le)
    (λ q.
    by_bool (taker.is_bad w.state) (λ t. rw (q, t) zero-le)
    (λ t. rw (q, t, push-piece w.decoder (length w.buffer) q p) (used-within p w.decoder (length w.buffer))))

module _ {S View : Type 0} (taker : Taker S View) (Fine : S → Type 0) (fit : (s : S) → Fine s → taker.is_bad s ≡ false)
    (keeps : (s : S) (f : List ℕ) → Fine s → Fine (taker.after s f)) where
  -- neither state is BadState
  pub record Good (w : Side S) : Type 0 where
    pub decoding : bad w.decoder (length w.buffer) ≡ false
    pub taking : Fine w.state

  received-on : (w : Side S) → Good w → (p : List ℕ)
      → received taker w p ≡ hand_on taker (piece_outcome w.decoder (length w.buffer) p) (piece_dest w.decoder (length w.buffer) p w.buffer) w.state p
  unfolding received
  received-on w g p =
      rw (g.decoding, fit w.state g.taking, push-piece w.decoder (length w.buffer) g.decoding p, push_dest-piece w.decoder p w.buffer g.decoding)

  -- no call leads to a BadState
  state-good : (o : Outcome) (buffer : List ℕ) (s : S) (p : List ℕ) → Fine s → Fine (hand_on taker o buffer s p).side.state
  state-good o buffer s p h =
      by_bool (is_done o.answer) (λ e. rw e (keeps s (take o.answer.first buffer) h)) (λ e. rw e h)

  pub received-good : (w : Side S) → Good w → (p : List ℕ) → Good (received taker w p).side
  received-good w g p =
      rw (received-on w g p)
      (record {
        decoding =
            rw (length-piece p w.decoder (length w.buffer) w.buffer, ← push-piece w.decoder (length w.buffer) g.decoding p)
            (push-good w.decoder (length w.buffer) p g.decoding);
        taking =
            state-good (piece_outcome w.decoder (length w.buffer) p) (piece_dest w.decoder (length w.buffer) p w.buffer) w.state p g.taking;
      })

  -- the same call, with one more byte before what it took
  abbrev later : Received (Side S) → Received (Side S)
  later r = record { side = r.side; answer = r.answer; consumed = suc r.consumed }

  hand-further : (o : Outcome) (buffer : List ℕ) (s : S) (b : ℕ) (p : List ℕ) → hand_on taker (further 1 o) buffer s (b ∷ p) ≡ later (hand_on taker o buffer s p)
  hand-further o buffer s b p =
      by_bool (is_more o)
      (λ e. rw (further-keeps 1 o e, e))
      (λ e. rw (further-counts 1 o e, e) (ap (λ (n : ℕ). record { side = (hand_on taker o buffer s p).side; answer = (hand_on taker o buffer s p).answer; consumed = n }) (omega arith)))

  -- after a byte at which the piece goes on
  abbrev past : Side S → (b : ℕ) → Side S
  past w b = record { decoder = (byte_outcome w.decoder (length w.buffer) b).next; buffer = byte_dest w.decoder b w.buffer; state = w.state }

  past-good : (w : Side S) → Good w → (b : ℕ) → Good (past w b)
  past-good w g b = record {
    decoding =
        rw (length-byte w.decoder b w.buffer)
        (of-good (byte_outcome w.decoder (length w.buffer) b).next (length w.buffer)
        (good-byte w.decoder (length w.buffer) b (good_of w.decoder (length w.buffer) g.decoding)));
    taking = g.taking;
  }

  module _ (w : Side S) (g : Good w) (b : ℕ) (p : List ℕ) where
    abbrev o : Outcome
    o = byte_outcome w.decoder (length w.buffer) b

    received-goes : is_more o ≡ true → received taker w (b ∷ p) ≡ later (received taker (past w b) p)
    received-goes e =
        received-on w g (b ∷ p)
        ∙ rw (piece-goes w.decoder (length w.buffer) b p o.next (byte-goes w.decoder (length w.buffer) b e), dest-goes w.decoder (length w.buffer) b p o.next (byte-goes w.decoder (length w.buffer) b e) w.buffer)
        (hand-further (piece_outcome o.next (length w.buffer) p) (piece_dest o.next (length w.buffer) p (byte_dest w.decoder b w.buffer)) w.state b p)
        ∙ ap later (sym (rw (length-byte w.decoder b w.buffer) at (received-on (past w b) (past-good w g b) p)))

    received-stops : is_more o ≡ false → received taker w (b ∷ p) ≡ received taker w (b ∷ [])
    received-stops e =
        received-on w g (b ∷ p)
        ∙ rw (piece-stops w.decoder (length w.buffer) b p e, dest-stops w.decoder (length w.buffer) b p e w.buffer, e)
        (sym (received-on w g (b ∷ []) ∙ rw (piece-stops w.decoder (length w.buffer) b [] e, dest-stops w.decoder (length w.buffer) b [] e w.buffer, e)))

    received-one : is_more o ≡ false → (received taker w (b ∷ p)).consumed ≡ 1
    received-one e =
        rw (received-on w g (b ∷ p), piece-stops w.decoder (length w.buffer) b p e, e) (byte-counts w.decoder (length w.buffer) b e)

    -- a call takes a byte or more
    pub takes : 1 ≤ (received taker w (b ∷ p)).consumed
    takes =
        by_bool (is_more o) (λ e. rw (received-goes e) (suc-le-suc zero-le)) (λ e. rw (received-one e) (le_refl 1))

  -- ---- the table and the rest left alone between calls

  abbrev pub keep : ℕ → S → S
  keep k s = s

  abbrev pub run_in : (n k : ℕ) → Side S → List ℕ → Run (Side S) View
  run_in n k w p = again.run_in (called taker keep) (seen taker keep) n k w p

  -- what is left of a piece after a call is shorter
  rest-shorter : (w : Side S) → Good w → (b : ℕ) (p : List ℕ) → length (drop (received taker w (b ∷ p)).consumed (b ∷ p)) ≤ length p
  rest-shorter w g b p = omega (arith, length-drop (received taker w (b ∷ p)).consumed (b ∷ p), takes w g b p)

  -- any count that is large enough gives the same
  enough : (n m k : ℕ) (w : Side S) → Good w → (p : List ℕ) → length p ≤ n → length p ≤ m → run_in n k w p ≡ run_in m k w p
  unfolding again.run_in
  enough zero zero k w g [] h l = refl
  enough zero (suc m) k w g [] h l = refl
  enough (suc n) zero k w g [] h l = refl
  enough (suc n) (suc m) k w g [] h l = refl
  enough zero m k w g (b ∷ p) h l = absurd (not-suc-le-zero h)
  enough (suc n) zero k w g (b ∷ p) h l = absurd (not-suc-le-zero l)
  enough (suc n) (suc m) k w g (b ∷ p) h l =
      let r : Received (Side S) = received taker w (b ∷ p) in
      ap (heard r.answer (taker.shows r.side.state))
      (enough n m (suc k) r.side (received-good w g (b ∷ p)) (drop r.consumed (b ∷ p)) (omega (arith, rest-shorter w g b p)) (omega (arith, rest-shorter w g b p)))

  -- Two runs said the same and left the same; how many calls they took may differ.
  pub record Alike (r s : Run (Side S) View) : Type 0 where
    pub said : r.said ≡ s.said
    pub side : r.side ≡ s.side

  -- each byte a piece of its own
  unfoldable pub by_bytes : Side S → (bytes : List ℕ) → Run (Side S) View
  by_bytes w [] = stopped 0 w
  by_bytes w (b ∷ p) =
      heard (received taker w (b ∷ [])).answer (taker.shows (received taker w (b ∷ [])).side.state) (by_bytes (received taker w (b ∷ [])).side p)

  pub heard-alike : (t : Told) (v : View) (r s : Run (Side S) View) → Alike r s → Alike (heard t v r) (heard t v s)
  heard-alike t v r s a =
      by_bool (eqb t.number more.number) (λ e. rw e a)
      (λ e. rw e (record { said = ap (λ (l : List (Said View)). record { answer = t; shown = v } ∷ l) a.said; side = a.side }))

  -- no byte: nothing
  pub received_none : (w : Side S) → Good w → received taker w [] ≡ record { side = w; answer = more; consumed = 0 }
  unfolding piece_outcome piece_dest
  received_none w g = received-on w g []

  -- what stands after the bytes it took is not looked at
  pub received-short : (p q : List ℕ) (w : Side S) → Good w → (received taker w p).answer.number ≢ more.number → received taker w (p ++ q) ≡ received taker w p
  received-short [] q w g h = absurd (h (ap (λ (r : Received (Side S)). r.answer.number) (received_none w g)))
  received-short (b ∷ p) q w g h =
      by_bool (is_more (byte_outcome w.decoder (length w.buffer) b))
      (λ e.
      received-goes w g b (p ++ q) e
      ∙ ap later (received-short p q (past w b) (past-good w g b) (rw (received-goes w g b p e) at h))
      ∙ sym (received-goes w g b p e))
      (λ e. received-stops w g b (p ++ q) e ∙ sym (received-stops w g b p e))

  -- a byte at which the piece goes on says nothing
  pub by_bytes-goes : (w : Side S) → Good w → (b : ℕ) (p : List ℕ) → is_more (byte_outcome w.decoder (length w.buffer) b) ≡ true → by_bytes w (b ∷ p) ≡ by_bytes (past w b) p
  unfolding by_bytes
  by_bytes-goes w g b p e = rw (received-goes w g b [] e, received_none (past w b) (past-good w g b))

  pub alike_refl : (r : Run (Side S) View) → Alike r r
  alike_refl r = record { said = refl; side = refl }

  pub alike-sym : {r s : Run (Side S) View} → Alike r s → Alike s r
  alike-sym a = record { said = sym a.said; side = sym a.side }

  pub alike-trans : {r s t : Run (Side S) View} → Alike r s → Alike s t → Alike r t
  alike-trans a b = record { said = a.said ∙ b.said; side = a.side ∙ b.side }

  side-goes : (w : Side S) → Good w → (b : ℕ) → is_more (byte_outcome w.decoder (length w.buffer) b) ≡ true → (received taker w (b ∷ [])).side ≡ past w b
  side-goes w g b e =
      ap (λ (r : Received (Side S)). r.side) (received-goes w g b [] e ∙ ap later (received_none (past w b) (past-good w g b)))

  -- and a run goes on from the byte after it
  run-goes : (w : Side S) → Good w → (b : ℕ) (p : List ℕ) (n k : ℕ) → length p ≤ n → is_more (byte_outcome w.decoder (length w.buffer) b) ≡ true
      → Alike (run_in (suc n) k w (b ∷ p)) (run_in n k (past w b) p)
  unfolding again.run_in
  run-goes w g b [] zero k h e =
      rw (received-goes w g b [] e, received_none (past w b) (past-good w g b)) (record { said = refl; side = refl })
  run-goes w g b [] (suc n) k h e =
      rw (received-goes w g b [] e, received_none (past w b) (past-good w g b)) (record { said = refl; side = side-goes w g b e })
  run-goes w g b (c ∷ p) zero k h e = absurd (not-suc-le-zero h)
  run-goes w g b (c ∷ p) (suc n) k h e =
      let v : Side S = past w b in
      let r : Received (Side S) = received taker v (c ∷ p) in
      subst
      (λ (x : Received (Side S)).
      Alike (heard x.answer (taker.shows x.side.state) (run_in (suc n) (suc k) x.side (drop x.consumed (b ∷ c ∷ p)))) (run_in (suc n) k v (c ∷ p)))
      (sym (received-goes w g b (c ∷ p) e))
      (heard-alike r.answer (taker.shows r.side.state) _ _
      (subst (λ (s : Run (Side S) View). Alike s (run_in n (suc k) r.side (drop r.consumed (c ∷ p))))
      (enough n (suc n) (suc k) r.side (received-good v (past-good w g b) (c ∷ p)) (drop r.consumed (c ∷ p)) (omega (arith, rest-shorter v (past-good w g b) c p)) (omega (arith, rest-shorter v (past-good w g b) c p)))
      (alike_refl _)))

  -- A piece in one call after another says and leaves what its bytes one by one do.
  pub piece_bytes : (p : List ℕ) (n k : ℕ) (w : Side S) → Good w → length p ≤ n → Alike (run_in n k w p) (by_bytes w p)
  unfolding again.run_in by_bytes
  piece_bytes [] zero k w g h = record { said = refl; side = refl }
  piece_bytes [] (suc n) k w g h = record { said = refl; side = refl }
  piece_bytes (b ∷ p) zero k w g h = absurd (not-suc-le-zero h)
  piece_bytes (b ∷ p) (suc n) k w g h =
      by_bool (is_more (byte_outcome w.decoder (length w.buffer) b))
      (λ e.
      rw (by_bytes-goes w g b p e)
      (alike-trans (run-goes w g b p n k (le_of_suc-le-suc h) e) (piece_bytes p n k (past w b) (past-good w g b) (le_of_suc-le-suc h))))
      (λ e.
      rw (received-stops w g b p e, received-one w g b [] e)
      (heard-alike (received taker w (b ∷ [])).answer (taker.shows (received taker w (b ∷ [])).side.state) _ _
      (piece_bytes p n (suc k) (received taker w (b ∷ [])).side (received-good w g (b ∷ [])) (le_of_suc-le-suc h))))

  bytes_good : (p : List ℕ) (w : Side S) → Good w → Good (by_bytes w p).side
  unfolding by_bytes
  bytes_good [] w g = g
  bytes_good (b ∷ p) w g =
      let r : Received (Side S) = received taker w (b ∷ []) in
      by_bool (eqb r.answer.number more.number)
      (λ e. rw e (bytes_good p r.side (received-good w g (b ∷ []))))
      (λ e. rw e (bytes_good p r.side (received-good w g (b ∷ []))))

  -- bytes after bytes
  pub bytes-append : (p q : List ℕ) (w : Side S) → Alike (by_bytes w (p ++ q)) (and_then (by_bytes w p) (λ k v. by_bytes v q))
  unfolding by_bytes
  bytes-append [] q w = record { said = refl; side = refl }
  bytes-append (b ∷ p) q w =
      let r : Received (Side S) = received taker w (b ∷ []) in
      let a : Alike (by_bytes r.side (p ++ q)) (and_then (by_bytes r.side p) (λ k v. by_bytes v q)) = bytes-append p q r.side in
      by_bool (eqb r.answer.number more.number) (λ e. rw e a) (λ e. rw e (record { said = ap (λ (l : List (Said View)). record { answer = r.answer; shown = taker.shows r.side.state } ∷ l) a.said; side = a.side }))

  -- A drive over pieces says and leaves what their bytes one by one do.
  pub drive-bytes : (ps : List (List ℕ)) (k : ℕ) (w : Side S) → Good w → Alike (drive taker keep k w ps) (by_bytes w (joined ps))
  unfolding again.drive again.run by_bytes
  drive-bytes [] k w g = record { said = refl; side = refl }
  drive-bytes (p ∷ ps) k w g =
      let r : Run (Side S) View = run taker keep k w p in
      let a : Alike r (by_bytes w p) = piece_bytes p (length p) k w g (le_refl (length p)) in
      let go : Good r.side = subst Good (sym a.side) (bytes_good p w g) in
      let rest : Alike (drive taker keep r.calls r.side ps) (by_bytes r.side (joined ps)) = drive-bytes ps r.calls r.side go in
      let whole : Alike (by_bytes w (p ++ joined ps)) (and_then (by_bytes w p) (λ j v. by_bytes v (joined ps))) = bytes-append p (joined ps) w in
      record {
        said =
            ap₂ (λ (x y : List (Said View)). x ++ y) a.said (rest.said ∙ ap (λ (v : Side S). (by_bytes v (joined ps)).said) a.side)
            ∙ sym whole.said;
        side = rest.side ∙ ap (λ (v : Side S). (by_bytes v (joined ps)).side) a.side ∙ sym whole.side;
      }

  -- Where bytes are cut changes no answer, state or byte.
  pub cut-anywhere : (w : Side S) → Good w → (ps qs : List (List ℕ)) → joined ps ≡ joined qs → (k j : ℕ) → Alike (drive taker keep k w ps) (drive taker keep j w qs)
  cut-anywhere w g ps qs e k j =
      let a : Alike (drive taker keep k w ps) (by_bytes w (joined ps)) = drive-bytes ps k w g in
      let b : Alike (drive taker keep j w qs) (by_bytes w (joined qs)) = drive-bytes qs j w g in
      record {
        said = a.said ∙ ap (λ (s : List ℕ). (by_bytes w s).said) e ∙ sym b.said;
        side = a.side ∙ ap (λ (s : List ℕ). (by_bytes w s).side) e ∙ sym b.side;
      }
