-- Steps of the decoder inside a frame: one byte, and many bytes of a group. Assumes nothing.
use mathlib.Core.Path.{◌≡◌, refl, sym, ap, ◌∙◌, subst}
use mathlib.Core.Bool.{Bool, true, false}
use mathlib.Core.List.{List}
use Prim.Native.Nat.{ℕ, zero, suc, ◌+◌, ◌-◌, ◌≤◌, ◌<◌}
use native.Mathlib.Numerals.{add-one}
use native.Mathlib.Omega.{arith}
use lib.Dec.{eqb}
use lib.ListN.{length, get_or, drop, set, length-drop}
use lib.Seq.{paste, paste-zero, paste-suc, get_or-drop}
use borrow.Author.Tests.{ne_eqb, lt-ltb}
use Rattle.dec.specs.Stream.{at, goes, byte_outcome, byte_dest}
use Rattle.dec.specs.Helpers.{group, inside, Ahead, Clear, Passed}
use Rattle.dec.specs.declared.state.DecoderState.{DecoderState}
use Rattle.dec.specs.declared.state.DecoderState.TheVariants.{Grab}
use Rattle.dec.specs.declared.stream.CobsDecoder.{CobsDecoder}
use Rattle.dec.proofs.Steps.{opened-group}
use Rattle.dec.proofs.Turns.{ahead_none, ahead-on, ahead-byte}

-- ---- one byte

-- of the group
data_outcome : (full : Bool) (left place room b : ℕ) → 0 < left → (b ≡ 0 → ⊥) → place < room
    → byte_outcome (at place (group full left)) room b ≡ goes (at (place + 1) (group full (left - 1)))
unfolding byte_outcome
data_outcome full zero place room b h nz lt = absurd (omega arith)
data_outcome full (suc left) place room zero h nz lt = absurd (nz refl)
data_outcome true (suc left) place room (suc b) h nz lt =
    let e : suc left - 1 ≡ left = omega arith in
    rw (lt-ltb place room lt, add-one place, e)
data_outcome false (suc left) place room (suc b) h nz lt =
    let e : suc left - 1 ≡ left = omega arith in
    rw (lt-ltb place room lt, add-one place, e)

data_dest : (full : Bool) (left place b : ℕ) (m : List ℕ) → 0 < left → (b ≡ 0 → ⊥) → set m place b ≡ byte_dest (at place (group full left)) b m
unfolding byte_dest
data_dest full zero place b m h nz = absurd (omega arith)
data_dest full (suc left) place zero m h nz = absurd (nz refl)
data_dest true (suc left) place (suc b) m h nz = refl
data_dest false (suc left) place (suc b) m h nz = refl

-- a code after a group that is not full
code-outcome : (place room b : ℕ) → (b ≡ 0 → ⊥) → place < room → byte_outcome (at place (Grab 0)) room b ≡ goes (inside b (b - 1) (place + 1))
unfolding byte_outcome
code-outcome place room zero nz lt = absurd (nz refl)
code-outcome place room (suc b) nz lt =
    let e : suc b - 1 ≡ b = omega arith in
    rw (lt-ltb place room lt, add-one place, e) (ap (λ (s : DecoderState). goes (at (suc place) s)) (opened-group (suc b)))

code-dest : (place b : ℕ) (m : List ℕ) → (b ≡ 0 → ⊥) → set m place 0 ≡ byte_dest (at place (Grab 0)) b m
unfolding byte_dest
code-dest place zero m nz = absurd (nz refl)
code-dest place (suc b) m nz = refl

module _ (room : ℕ) (p : List ℕ) (i : ℕ) (h : i < length p) (nz : get_or p i 0 ≡ 0 → ⊥) (c place : ℕ) (m : List ℕ) (l : place < room) where
  pub step_data : (left : ℕ) → 0 < left → Ahead room p i (inside c left place) m (i + 1) (inside c (left - 1) (place + 1)) (set m place (get_or p i 0))
  step_data left k =
      ahead-byte room p i (inside c left place) m h (get_or p i 0) refl (inside c (left - 1) (place + 1))
      (data_outcome (eqb c 255) left place room (get_or p i 0) k nz l) (set m place (get_or p i 0)) (data_dest (eqb c 255) left place (get_or p i 0) m k nz)

  pub step-code : (c ≡ 255 → ⊥) → Ahead room p i (inside c 0 place) m (i + 1) (inside (get_or p i 0) (get_or p i 0 - 1) (place + 1)) (set m place 0)
  step-code nc =
      subst (λ (t : Bool). Ahead room p i (at place (group t 0)) m (i + 1) (inside (get_or p i 0) (get_or p i 0 - 1) (place + 1)) (set m place 0)) (sym (ne_eqb c 255 nc))
      (ahead-byte room p i (at place (Grab 0)) m h (get_or p i 0) refl (inside (get_or p i 0) (get_or p i 0 - 1) (place + 1))
      (code-outcome place room (get_or p i 0) nz l) (set m place 0) (code-dest place (get_or p i 0) m nz))

-- ---- many bytes of a group

-- the same, with its numbers and memory written another way
pub same_ahead : (c : ℕ) {room : ℕ} {p : List ℕ} {i : ℕ} {d : CobsDecoder} {m : List ℕ} {i' left place : ℕ} {m' : List ℕ}
    → Ahead room p i d m i' (inside c left place) m' → (j left' place' : ℕ) (m'' : List ℕ) → i' ≡ j → left ≡ left' → place ≡ place' → m' ≡ m''
    → Ahead room p i d m j (inside c left' place') m''
same_ahead c {room} {p} {i} {d} {m} {i'} {left} {place} {m'} a j left' place' m'' q₁ q₂ q₃ q₄ =
    subst (λ (x : ℕ). Ahead room p i d m x (inside c left' place') m'') q₁
    (subst (λ (x : ℕ). Ahead room p i d m i' (inside c x place') m'') q₂
    (subst (λ (x : ℕ). Ahead room p i d m i' (inside c left x) m'') q₃
    (subst (λ (x : List ℕ). Ahead room p i d m i' (inside c left place) x) q₄ a)))

pub steps_data : (t : ℕ) (p : List ℕ) (i c left place : ℕ) (m : List ℕ) → t ≤ left → i + t ≤ length p → place + t ≤ length m → Clear p i t
    → Ahead (length m) p i (inside c left place) m (i + t) (inside c (left - t) (place + t)) (paste m place (drop i p) t)
steps_data zero p i c left place m h hi hp nz =
    same_ahead c (ahead_none (length m) p i (inside c left place) m) (i + 0) (left - 0) (place + 0) (paste m place (drop i p) 0)
    (omega arith) (omega arith) (omega arith) (paste-zero m place (drop i p))
steps_data (suc t) p i c left place m h hi hp nz =
    let ih = steps_data t p i c left place m (omega arith) (omega arith) (omega arith) (λ k l. nz k (omega arith)) in
    let m₁ : List ℕ = paste m place (drop i p) t in
    let s = step_data (length m) p (i + t) (omega arith) (nz t (omega arith)) c (place + t) m₁ (omega arith) (left - t) (omega arith) in
    let e : set m₁ (place + t) (get_or p (i + t) 0) ≡ paste m place (drop i p) (suc t) =
    ap (λ (v : ℕ). set m₁ (place + t) v) (sym (get_or-drop i p t 0)) ∙ paste-suc m place (drop i p) t 0 (omega arith) (omega (arith, length-drop i p)) in
    same_ahead c (ahead-on ih s) (i + suc t) (left - suc t) (place + suc t) (paste m place (drop i p) (suc t)) (omega arith) (omega arith) (omega arith) e

-- ---- one by one

pub passed_more : (p : List ℕ) (from to : ℕ) (d : List ℕ) (most k : ℕ) (d' : List ℕ) → Passed p from to d most k d' → k < most
    → from + k < length p → to + k < length d → (b : ℕ) → b ≡ get_or p (from + k) 0 → (b ≡ 0 → ⊥) → Passed p from to d most (k + 1) (set d' (to + k) b)
passed_more p from to d most k d' w h hp hd b eb nz c left le =
    let s = step_data (length d) p (from + k) hp (λ e. nz (eb ∙ e)) c (to + k) d' hd (left - k) (omega arith) in
    same_ahead c (ahead-on (w c left le) s) (from + (k + 1)) (left - (k + 1)) (to + (k + 1)) (set d' (to + k) b)
    (omega arith) (omega arith) (omega arith) (ap (set d' (to + k)) (sym eb))
