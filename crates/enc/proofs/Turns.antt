-- The turns of the fast encoder's loops: a byte, sixteen zeros, a mark, a group closed. Assumes nothing.
use Rattle.std.specs.Prelude.{if◌then◌else◌}
use mathlib.Core.Path.{◌≡◌, refl, sym, ap, ◌∙◌, subst}
use mathlib.Core.Bool.{true}
use mathlib.Core.List.{List}
use Prim.Native.Nat.{ℕ, zero, suc, ◌+◌, ◌-◌, ◌≤◌, ◌<◌}
use native.Mathlib.Nat.{not-suc-le-zero}
use native.Mathlib.Omega.{arith}
use lib.Dec.{eqb}
use lib.ListN.{length, get_or, drop, set, replicate, get_or-replicate, length-drop, length-set}
use lib.Seq.{paste, length-paste, paste-zero, paste-suc, get_or-drop}
use borrow.Author.Tests.{eq-eqb, ne_eqb}
use Rattle.blocks.specs.Blocks.{is_clear, is_all, copied, filled}
use Rattle.blocks.proofs.Blocks.{clear_says, all-says, copied-fits, filled-fits}
use Rattle.enc.specs.Fast.{Open, Kept}
use Rattle.enc.proofs.Deciding.{by_lt, by_eq}
use Rattle.enc.proofs.Parts.{paste_in, paste-take}
use Rattle.enc.proofs.Opens.{kept_refl, kept_on, same-open, room, kept-paste, kept-code, changed, ahead, pass, shut, close_zero, close-full, inside}

-- ---- one byte, not zero

module _ (s : List ℕ) (i place out : ℕ) (d : List ℕ) (o : Open s i place out 0 d) (h : i < length s) where
  -- a byte stored is a copy of one
  stored : set d out (get_or s i 0) ≡ paste d out (drop i s) 1
  stored =
      let e : out + 0 ≡ out = omega arith in
      let e' : get_or (drop i s) 0 0 ≡ get_or s i 0 = get_or-drop i s 0 0 ∙ ap (λ (j : ℕ). get_or s j 0) (omega arith) in
      let t = paste-suc d out (drop i s) 0 0 (omega (arith, room s i place out 0 d o, o.fits)) (omega (arith, length-drop i s)) in
      rw (← paste-zero d out (drop i s), e, e') at t

  pub byte-open : (get_or s i 0 ≡ 0 → ⊥) → out + 1 ≤ place + 255 → Open s (i + 1) place (out + 1) 0 (set d out (get_or s i 0))
  byte-open nz few =
      rw stored
      (pass s i place out 1 (paste d out (drop i s) 1) (ahead s i place out 0 d o 1 (omega arith)) 1 (omega arith)
      (λ j l w. let e : i + j ≡ i = omega arith in nz (ap (λ (x : ℕ). get_or s x 0) (sym e) ∙ w)) few)

  pub byte-kept : Kept s d (set d out (get_or s i 0))
  byte-kept = rw stored (kept-paste s d out (drop i s) 1 (omega (arith, room s i place out 0 d o)) o.fits (omega (arith, length-drop i s)))

-- ---- sixteen zeros

-- a group of no bytes is open at `place`, and each of the next n places has a 1: these are the codes of n such groups
ones : (s : List ℕ) (i place : ℕ) (d : List ℕ) → Open s i place (place + 1) 0 d → (n : ℕ) → i + n ≤ length s
    → ((k : ℕ) → k < n → get_or s (i + k) 0 ≡ 0) → ((k : ℕ) → k < n → get_or d (place + k) 0 ≡ 1)
    → Open s (i + n) (place + n) (place + n + 1) 0 d
ones s i place d o zero h z f = same-open o (omega arith) (omega arith) (omega arith) refl
ones s i place d o (suc n) h z f =
    let t = ones s i place d o n (omega arith) (λ k l. z k (omega arith)) (λ k l. f k (omega arith)) in
    let none : t.run ≡ 0 = omega (arith, t.code) in
    let one : get_or d (place + n) 0 ≡ place + n + 1 - (place + n) = f n (omega arith) ∙ omega arith in
    same-open
    (shut s (i + n) (place + n) (place + n + 1) 0 d t d refl refl one (λ k l. absurd (omega (arith, none)))
    (omega arith) (z n (omega arith)) (omega arith) 0 (omega arith) (λ k l. absurd (not-suc-le-zero l)))
    (omega arith) (omega arith) (omega arith) refl

module _ (s : List ℕ) (i place out a : ℕ) (d : List ℕ) (o : Open s i place out a d) (h : i + 16 ≤ length s)
    (z : (k : ℕ) → k < 16 → get_or s (i + k) 0 ≡ 0) (few : out < place + 255) where
  abbrev coded : List ℕ
  coded = set d place (out - place)

  abbrev with_ones : List ℕ
  with_ones = paste coded out (replicate 16 1) 16

  closed : Open s (i + 1) out (out + 1) (a - 1) coded
  closed = close_zero s i place out a d o (omega arith) (subst (λ (j : ℕ). get_or s j 0 ≡ 0) (omega arith) (z 0 (omega arith))) few

  enough : out + 16 ≤ length coded
  enough = omega (arith, room s i place out a d o, closed.fits)

  reopened : Open s (i + 1) out (out + 1) 0 with_ones
  reopened =
      changed s (i + 1) out (out + 1) (a - 1) coded closed 0 (omega arith) with_ones (length-paste coded out (replicate 16 1) 16 enough (omega arith))
      (paste-take coded out (replicate 16 1) 16 enough (omega arith) out (omega arith))
      (λ k l. absurd (omega (arith, closed.code)))

  pub zeros-open : Open s (i + 16) (out + 15) (out + 16) 0 with_ones
  zeros-open =
      same-open
      (ones s (i + 1) out with_ones reopened 15 (omega arith)
      (λ k l. subst (λ (j : ℕ). get_or s j 0 ≡ 0) (omega arith) (z (k + 1) (omega arith)))
      (λ k l. paste_in coded out (replicate 16 1) 16 enough (omega arith) k (omega arith) ∙ get_or-replicate 16 k 1 0 (omega arith)))
      (omega arith) refl (omega arith) refl

  pub zeros-kept : Kept s d with_ones
  zeros-kept =
      kept_on (kept-code s i place out a d o)
      (kept-paste s coded out (replicate 16 1) 16 (omega (arith, room s i place out a d o)) closed.fits (omega arith))

-- ---- a block of sixteen

module _ (s : List ℕ) (i place out : ℕ) (d : List ℕ) (o : Open s i place out 0 d) (h : i + 16 ≤ length s) (d' : List ℕ) (q : d' ≡ copied d out s i) where
  pasted : d' ≡ paste d out (drop i s) 16
  pasted = q ∙ copied-fits d out s i (omega (arith, inside o)) h

  pub block-open : Open s i place out 16 d'
  block-open = rw pasted (ahead s i place out 0 d o 16 h)

  pub block-kept : Kept s d d'
  block-kept = rw pasted (kept-paste s d out (drop i s) 16 (omega (arith, room s i place out 0 d o)) o.fits (omega (arith, length-drop i s)))

-- no zero among them
pub block_clear : (s : List ℕ) (i place out : ℕ) (d : List ℕ) → Open s i place out 16 d → out + 16 ≤ place + 254 → is_clear s i ≡ true
    → Open s (i + 16) place (out + 16) 0 d
block_clear s i place out d o few c = pass s i place out 16 d o 16 (omega arith) (clear_says s i c).1 (omega arith)

-- nothing but zeros
pub block-zeros : (s : List ℕ) (i place out : ℕ) (d : List ℕ) → Open s i place out 16 d → out + 16 ≤ place + 254 → is_all 0 s i ≡ true
    → (d' : List ℕ) → d' ≡ filled (set d place (out - place)) out 1 → Open s (i + 16) (out + 15) (out + 16) 0 d' × Kept s d d'
block-zeros s i place out d o few z d' q =
    let a = all-says 0 s i z in
    let e = q ∙ filled-fits (set d place (out - place)) out 1 (omega (arith, length-set d place (out - place), inside o, a.0)) in
    rw e (zeros-open s i place out 16 d o a.0 a.1 (omega arith), zeros-kept s i place out 16 d o a.0 a.1 (omega arith))

-- ---- a mark among sixteen bytes copied

pub mark-turn : (s : List ℕ) (i place out k : ℕ) (d : List ℕ) → k < 16 → out + 16 ≤ place + 254 → Open s (i + k) place (out + k) (16 - k) d
    → (p' : ℕ) (d' : List ℕ) → p' ≡ (if eqb (get_or s (i + k) 0) 0 then out + k else place)
    → d' ≡ (if eqb (get_or s (i + k) 0) 0 then set d place (out + k - place) else d)
    → (out + 16 ≤ p' + 254) × Open s (i + (k + 1)) p' (out + (k + 1)) (16 - (k + 1)) d' × Kept s d d'
mark-turn s i place out k d h few o p' d' qp qd =
    by_eq (get_or s (i + k) 0) 0
    (λ z.
    let ep : p' ≡ out + k = simp (eq-eqb _ _ z) at qp in
    let ed : d' ≡ set d place (out + k - place) = simp (eq-eqb _ _ z) at qd in
    rw (ep, ed) (
      omega (arith, o.code),
      same-open (close_zero s (i + k) place (out + k) (16 - k) d o (omega (arith, o.within)) z (omega arith)) (omega arith) refl (omega arith) (omega arith),
      kept-code s (i + k) place (out + k) (16 - k) d o,
    ))
    (λ nz.
    let ep : p' ≡ place = simp (ne_eqb _ _ nz) at qp in
    let ed : d' ≡ d = simp (ne_eqb _ _ nz) at qd in
    rw (ep, ed) (
      few,
      same-open
          (pass s (i + k) place (out + k) (16 - k) d o 1 (omega arith)
          (λ j l w. let e : i + k + j ≡ i + k = omega arith in nz (ap (λ (x : ℕ). get_or s x 0) (sym e) ∙ w)) (omega arith))
          (omega arith) refl (omega arith) (omega arith),
      kept_refl s d,
    ))

-- ---- a group closed, and the next one open: after its zero, or at once where it is full

pub group-turn : (s : List ℕ) (i place out : ℕ) (d : List ℕ) → Open s i place out 0 d → i < length s → (out < place + 255 → get_or s i 0 ≡ 0)
    → (i' : ℕ) → (out < place + 255 → i' ≡ i + 1) → (place + 255 ≤ out → i' ≡ i)
    → Open s i' out (out + 1) 0 (set d place (out - place))
group-turn s i place out d o h z i' cut full =
    by_lt out (place + 255)
    (λ l. same-open (close_zero s i place out 0 d o h (z l) l) (sym (cut l)) refl refl (omega arith))
    (λ l. same-open (close-full s i place out 0 d o h (omega (arith, o.code, o.few))) (sym (full l)) refl refl refl)
