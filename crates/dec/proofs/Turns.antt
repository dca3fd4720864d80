-- The loop of `push`: what is left of the piece, byte by byte. Assumes nothing.
use mathlib.Core.Path.{◌≡◌, refl, sym, ap, ◌∙◌, subst}
use mathlib.Core.Bool.{true, false}
use mathlib.Core.List.{List, [], ◌∷◌}
use Prim.Native.Nat.{ℕ, ◌+◌, ◌-◌, ◌≤◌, ◌<◌}
use native.Mathlib.Omega.{arith}
use lib.ListN.{length, get_or, drop, drop_of_length-le}
use Rattle.cobs.specs.Answers.{bad_state}
use Rattle.dec.specs.Stream.{bad, Outcome, goes, stops, is_more, byte_outcome, byte_dest, further, piece_outcome, piece_dest, push_outcome, push_dest}
use Rattle.dec.specs.Helpers.{Ahead}
use Rattle.dec.specs.declared.stream.CobsDecoder.{CobsDecoder}
use Rattle.dec.proofs.Cases.{by_bool, drop-next}
use Rattle.dec.proofs.Pieces.{length-byte, further-more, further-goes, further_zero, further_add, piece_goes, piece_stops, dest-goes, dest-stops, byte-goes, push_piece, push_dest_piece}

pub ahead_none : (room : ℕ) (p : List ℕ) (i : ℕ) (d : CobsDecoder) (m : List ℕ) → Ahead room p i d m i d m
ahead_none room p i d m = record { answer = refl; memory = refl; long = refl }

module _ {room : ℕ} {p : List ℕ} {i : ℕ} {d : CobsDecoder} {m : List ℕ} {i' : ℕ} {d' : CobsDecoder} {m' : List ℕ} (a : Ahead room p i d m i' d' m') where
  pub ahead-on : {i'' : ℕ} {d'' : CobsDecoder} {m'' : List ℕ} → Ahead room p i' d' m' i'' d'' m'' → Ahead room p i d m i'' d'' m''
  ahead-on b = record { answer = a.answer ∙ b.answer; memory = a.memory ∙ b.memory; long = b.long ∙ a.long }

-- the same, from a call that knows the destination as it is now
pub ahead-further : {p : List ℕ} {f : ℕ} {d₀ : CobsDecoder} {m₀ : List ℕ} {i : ℕ} {d : CobsDecoder} {m : List ℕ} {i' : ℕ} {d' : CobsDecoder} {m' : List ℕ}
    → Ahead (length m₀) p f d₀ m₀ i d m → Ahead (length m) p i d m i' d' m' → Ahead (length m₀) p f d₀ m₀ i' d' m'
ahead-further {p} {f} {d₀} {m₀} {i} {d} {m} {i'} {d'} {m'} a b = ahead-on a (subst (λ (r : ℕ). Ahead r p i d m i' d' m') a.long b)

-- a byte after which the piece goes on
pub ahead-byte : (room : ℕ) (p : List ℕ) (i : ℕ) (d : CobsDecoder) (m : List ℕ) → i < length p → (b : ℕ) → b ≡ get_or p i 0
    → (d' : CobsDecoder) → byte_outcome d room b ≡ goes d' → (m' : List ℕ) → m' ≡ byte_dest d b m → Ahead room p i d m (i + 1) d' m'
ahead-byte room p i d m h b eb d' e m' q =
    let s : List ℕ = drop (i + 1) p in
    let next : drop i p ≡ b ∷ drop (i + 1) p = drop-next p i h ∙ ap (λ (x : ℕ). x ∷ drop (i + 1) p) (sym eb) in
    record {
      answer = ap (λ (x : List ℕ). further i (piece_outcome d room x)) next ∙ ap (further i) (piece_goes d room b s d' e) ∙ further_add i 1 (piece_outcome d' room s);
      memory = ap (λ (x : List ℕ). piece_dest d room x m) next ∙ dest-goes d room b s d' e m ∙ ap (piece_dest d' room s) (sym q);
      long = ap length q ∙ length-byte d b m;
    }

-- ---- the ways through the loop

module _ (d₀ : CobsDecoder) (p m₀ : List ℕ) where
  -- the outcome o and the memory m are those of the push
  abbrev Whole : Outcome → List ℕ → Type 0
  Whole o m = (o ≡ push_outcome d₀ (length m₀) p) × (m ≡ push_dest d₀ p m₀)

  pub push-bad : bad d₀ (length m₀) ≡ true → Whole (stops d₀ bad_state) m₀
  unfolding push_outcome push_dest
  push-bad e = (rw e, rw e)

  module _ (g : bad d₀ (length m₀) ≡ false) (i : ℕ) (d : CobsDecoder) (m : List ℕ) (a : Ahead (length m₀) p 0 d₀ m₀ i d m) where
    whole-answer : push_outcome d₀ (length m₀) p ≡ further i (piece_outcome d (length m₀) (drop i p))
    whole-answer = push_piece d₀ (length m₀) g p ∙ sym (further_zero (piece_outcome d₀ (length m₀) p)) ∙ a.answer

    whole-memory : push_dest d₀ p m₀ ≡ piece_dest d (length m₀) (drop i p) m
    whole-memory = push_dest_piece d₀ p m₀ g ∙ a.memory

    -- the piece is used up
    pub push-ends : length p ≤ i → Whole (goes d) m
    unfolding piece_outcome piece_dest further
    push-ends h =
        let e : drop i p ≡ [] = drop_of_length-le p h in
        (sym (whole-answer ∙ ap (λ (x : List ℕ). further i (piece_outcome d (length m₀) x)) e), sym (whole-memory ∙ ap (λ (x : List ℕ). piece_dest d (length m₀) x m) e))

    module _ (h : i < length p) (b : ℕ) (eb : b ≡ get_or p i 0) (o : Outcome) (e : o ≡ further (i + 1 - 1) (byte_outcome d (length m) b)) (m' : List ℕ) (q : m' ≡ byte_dest d b m) where
      taken : o ≡ further i (byte_outcome d (length m₀) b)
      taken =
          let k : i + 1 - 1 ≡ i = omega arith in
          e ∙ ap (λ (n : ℕ). further n (byte_outcome d (length m) b)) k ∙ ap (λ (n : ℕ). further i (byte_outcome d n b)) a.long

      next : drop i p ≡ b ∷ drop (i + 1) p
      next = drop-next p i h ∙ ap (λ (x : ℕ). x ∷ drop (i + 1) p) (sym eb)

      -- the byte stops it
      pub push-stops : is_more o ≡ false → Whole o m'
      push-stops f =
          let s : is_more (byte_outcome d (length m₀) b) ≡ false = sym (further-more i (byte_outcome d (length m₀) b)) ∙ ap is_more (sym taken) ∙ f in (
            taken
                ∙ sym (whole-answer ∙ ap (λ (x : List ℕ). further i (piece_outcome d (length m₀) x)) next ∙ ap (further i) (piece_stops d (length m₀) b (drop (i + 1) p) s)),
            q ∙ sym (whole-memory ∙ ap (λ (x : List ℕ). piece_dest d (length m₀) x m) next ∙ dest-stops d (length m₀) b (drop (i + 1) p) s m),
          )

      -- it goes on
      pub push_goes : (d' : CobsDecoder) → o ≡ goes d' → Ahead (length m₀) p 0 d₀ m₀ (i + 1) d' m'
      push_goes d' f =
          ahead-on a (ahead-byte (length m₀) p i d m h b eb d' (further-goes i (byte_outcome d (length m₀) b) d' (sym taken ∙ f)) m' q)

-- a piece of one byte
pub push-one : (d : CobsDecoder) (b : ℕ) (m : List ℕ) → bad d (length m) ≡ false → (o : Outcome) → o ≡ further 0 (byte_outcome d (length m) b)
    → (m' : List ℕ) → m' ≡ byte_dest d b m → Whole d (b ∷ []) m o m'
push-one d b m g o e m' q =
    let start : Ahead (length m) (b ∷ []) 0 d m 0 d m = ahead_none (length m) (b ∷ []) 0 d m in
    let one : 0 < length (b ∷ []) = omega arith in
    let is : o ≡ byte_outcome d (length m) b = e ∙ further_zero (byte_outcome d (length m) b) in
    by_bool (is_more o)
    (λ f.
    let on : o ≡ goes o.next = is ∙ byte-goes d (length m) b (ap is_more (sym is) ∙ f) ∙ ap (λ (x : Outcome). goes x.next) (sym is) in
    let w = push-ends d (b ∷ []) m g 1 o.next m' (push_goes d (b ∷ []) m g 0 d m start one b refl o e m' q o.next on) (omega arith) in
    (on ∙ w.0, w.1))
    (λ f. push-stops d (b ∷ []) m g 0 d m start one b refl o e m' q f)
