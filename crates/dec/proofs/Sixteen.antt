-- Sixteen bytes that are copied as they are, and the codes among them made zeros one by one. Assumes nothing.
use mathlib.Core.Path.{◌≡◌, refl, sym, ap, ◌∙◌, subst}
use mathlib.Core.Bool.{true}
use mathlib.Core.List.{List, ◌++◌, append_assoc}
use Prim.Native.Nat.{ℕ, zero, suc, ◌+◌, ◌-◌, ◌≤◌, ◌<◌}
use native.Mathlib.Decide.{dec_lt}
use native.Mathlib.Omega.{arith}
use lib.ListN.{length, get_or, take, drop, set, length-set, length-drop, length-append, replicate, length-replicate, get_or-replicate}
use lib.Seq.{paste, paste-zero, paste-suc, length-paste, take-paste, drop-paste, drop-drop, take-add, drop-set-lt, take-set-lt, set-append_left, set-set, length-take-le, take-take, take_at}
use borrow.Author.Tests.{ne_eqb}
use Rattle.blocks.specs.Blocks.{is_clear, copied}
use Rattle.blocks.proofs.Blocks.{clear_says, copied-fits}
use Rattle.dec.specs.Helpers.{inside, open_at, Ahead, Clear, Patched}
use Rattle.dec.specs.declared.fast.Open.{Open}
use Rattle.dec.specs.declared.stream.CobsDecoder.{CobsDecoder}
use Rattle.dec.proofs.Turns.{ahead_none, ahead-on}
use Rattle.dec.proofs.Inside.{step-code, same_ahead, steps_data}

-- ---- copies in parts

paste_split : (m : List ℕ) (at : ℕ) (s : List ℕ) (t u : ℕ) → at + (t + u) ≤ length m → t + u ≤ length s
    → paste m at s (t + u) ≡ paste (paste m at s t) (at + t) (drop t s) u
paste_split m at s t u hm hs =
    let e₁ : take (at + t) (paste m at s t) ≡ take at m ++ take t s = take-paste m at s t (omega arith) (omega arith) in
    let e₀ : at + t + u ≡ at + (t + u) = omega arith in
    let e₂ : drop (at + t + u) (paste m at s t) ≡ drop (at + (t + u)) m =
    sym (drop-drop u (at + t) (paste m at s t)) ∙ ap (drop u) (drop-paste m at s t (omega arith) (omega arith)) ∙ drop-drop u (at + t) m ∙ ap (λ (j : ℕ). drop j m) e₀ in
    ap (λ (x : List ℕ). take at m ++ x ++ drop (at + (t + u)) m) (take-add t u s)
    ∙ ap (λ (x : List ℕ). x ++ drop (at + (t + u)) m) (sym (append_assoc (take at m) (take t s) (take u (drop t s))))
    ∙ ap (λ (x : List ℕ). x ++ take u (drop t s) ++ drop (at + (t + u)) m) (sym e₁)
    ∙ ap (λ (x : List ℕ). take (at + t) (paste m at s t) ++ take u (drop t s) ++ x) (sym e₂)

-- a store before the copy
set_before : (m : List ℕ) (at : ℕ) (s : List ℕ) (u j v : ℕ) → j < at → at ≤ length m → set (paste m at s u) j v ≡ paste (set m j v) at s u
set_before m at s u j v h hm =
    let l : length (take at m) ≡ at = length-take-le at m hm in
    set-append_left (take at m ++ take u s) (drop (at + u) m) j v (omega (arith, length-append (take at m) (take u s)))
    ∙ ap (λ (x : List ℕ). x ++ drop (at + u) m) (set-append_left (take at m) (take u s) j v (omega arith) ∙ ap (λ (x : List ℕ). x ++ take u s) (sym (take-set-lt at m j v h)))
    ∙ ap (λ (x : List ℕ). take at (set m j v) ++ take u s ++ x) (sym (drop-set-lt (at + u) m j v (omega arith)))

-- a store over the copy's first byte
set_first : (m : List ℕ) (at : ℕ) (s : List ℕ) (u v : ℕ) → at + (1 + u) ≤ length m → 1 + u ≤ length s
    → set (paste m at s (1 + u)) at v ≡ paste (set m at v) (at + 1) (drop 1 s) u
set_first m at s u v hm hs =
    let e₀ : at + 0 ≡ at = omega arith in
    let e₁ : paste m at s 1 ≡ set m at (get_or s 0 0) =
    sym (paste-suc m at s 0 0 (omega arith) (omega arith)) ∙ ap (λ (x : List ℕ). set x (at + 0) (get_or s 0 0)) (sym (paste-zero m at s)) ∙ ap (λ (j : ℕ). set m j (get_or s 0 0)) e₀ in
    ap (λ (x : List ℕ). set x at v) (paste_split m at s 1 u hm hs)
    ∙ set_before (paste m at s 1) (at + 1) (drop 1 s) u at v (omega arith) (omega (arith, ap length e₁, length-set m at (get_or s 0 0)))
    ∙ ap (λ (x : List ℕ). paste (set x at v) (at + 1) (drop 1 s) u) e₁
    ∙ ap (λ (x : List ℕ). paste x (at + 1) (drop 1 s) u) (set-set m at (get_or s 0 0) v)

-- a copy over a copy
paste-again : (m : List ℕ) (at : ℕ) (s t : List ℕ) (n : ℕ) → at + n ≤ length m → n ≤ length s → paste (paste m at s n) at t n ≡ paste m at t n
paste-again m at s t n hm hs =
    let l : length (take at m) ≡ at = length-take-le at m (omega arith) in
    let e₁ : take at (paste m at s n) ≡ take at m =
    sym (take-take at (at + n) (paste m at s n) (omega arith)) ∙ ap (take at) (take-paste m at s n (omega arith) hs) ∙ take_at (take at m) (take n s) at l in
    ap (λ (x : List ℕ). x ++ take n t ++ drop (at + n) (paste m at s n)) e₁
    ∙ ap (λ (x : List ℕ). take at m ++ take n t ++ x) (drop-paste m at s n (omega arith) hs)

-- ---- the codes among sixteen bytes

-- Of sixteen bytes, copied to m's place, the first k are decoded, and `mem` is what the decoder has then. The next code is at q,
-- and the buffer d has the bytes that are left as they are.
pub record Mid (p : List ℕ) (i place c₀ left₀ : ℕ) (m : List ℕ) (c q : ℕ) (d : List ℕ) : Type 0 where
  pub k : ℕ
  pub mem : List ℕ
  pub small : k ≤ 16
  pub upto : k ≤ q
  pub exact : k < 16 → k ≡ q
  pub ahead : Ahead (length m) p i (inside c₀ left₀ place) m (i + k) (inside c (q - k) (place + k)) mem
  pub shape : d ≡ paste mem (place + k) (drop (i + k) p) (16 - k)

module _ (p : List ℕ) (i place c₀ left₀ : ℕ) (m : List ℕ) (hp : i + 16 ≤ length p) (hm : place + 16 ≤ length m) (clear : Clear p i 16) where
  -- The decoder after k of the bytes, before the other end of the sixteen.
  abbrev From : (k c l : ℕ) (mem : List ℕ) → Type 0
  From k c l mem = Ahead (length m) p i (inside c₀ left₀ place) m (i + k) (inside c l (place + k)) mem

  -- t bytes of the open group
  flow-by : (t k c l : ℕ) (mem d : List ℕ) → k + t ≤ 16 → t ≤ l → (k + t < 16 → t ≡ l) → From k c l mem
      → d ≡ paste mem (place + k) (drop (i + k) p) (16 - k) → (q : ℕ) → q ≡ k + l → Mid p i place c₀ left₀ m c q d
  flow-by t k c l mem d h hl ex a s q qx =
      let e₁ : place + k + t ≡ place + (k + t) = omega arith in
      let e₂ : i + k + t ≡ i + (k + t) = omega arith in
      let e₃ : t + (16 - (k + t)) ≡ 16 - k = omega arith in
      let steps = steps_data t p (i + k) c l (place + k) mem hl (omega arith) (omega (arith, a.long))
      (λ j g. let e : i + (k + j) ≡ i + k + j = omega arith in subst (λ (y : ℕ). get_or p y 0 ≡ 0 → ⊥) e (clear (k + j) (omega arith))) in
      record {
        k = k + t;
        mem = paste mem (place + k) (drop (i + k) p) t;
        small = h;
        upto = omega arith;
        exact = λ g. omega (arith, ex g);
        ahead =
            same_ahead c (ahead-on a (subst (λ (r : ℕ). Ahead r p (i + k) (inside c l (place + k)) mem (i + k + t) (inside c (l - t) (place + k + t)) (paste mem (place + k) (drop (i + k) p) t)) a.long steps))
            (i + (k + t)) (q - (k + t)) (place + (k + t)) (paste mem (place + k) (drop (i + k) p) t) e₂ (omega arith) e₁ refl;
        shape =
            s
            ∙ ap (λ (y : ℕ). paste mem (place + k) (drop (i + k) p) y) (sym e₃)
            ∙ paste_split mem (place + k) (drop (i + k) p) t (16 - (k + t)) (omega (arith, a.long)) (omega (arith, length-drop (i + k) p))
            ∙ ap (λ (y : ℕ). paste (paste mem (place + k) (drop (i + k) p) t) y (drop t (drop (i + k) p)) (16 - (k + t))) e₁
            ∙ ap (λ (y : List ℕ). paste (paste mem (place + k) (drop (i + k) p) t) (place + (k + t)) y (16 - (k + t))) (drop-drop t (i + k) p ∙ ap (λ (y : ℕ). drop y p) e₂);
      }

  -- the bytes of the open group, as many as there are
  flow : (k c l : ℕ) (mem d : List ℕ) → k ≤ 16 → From k c l mem → d ≡ paste mem (place + k) (drop (i + k) p) (16 - k) → (q : ℕ) → q ≡ k + l
      → Mid p i place c₀ left₀ m c q d
  flow k c l mem d h a s q qx =
      elim (dec_lt l (16 - k)) [
        | yes g ↦ flow-by l k c l mem d (omega arith) (omega arith) (λ _. refl) a s q qx
        | no g ↦ flow-by (16 - k) k c l mem d (omega arith) (omega arith) (λ w. absurd (omega arith)) a s q qx
      ]

  mid-first : (d : List ℕ) → d ≡ paste m place (drop i p) 16 → Mid p i place c₀ left₀ m c₀ left₀ d
  mid-first d s =
      let e₁ : i ≡ i + 0 = omega arith in
      let e₂ : place ≡ place + 0 = omega arith in
      flow 0 c₀ left₀ m d (omega arith)
      (same_ahead c₀ (ahead_none (length m) p i (inside c₀ left₀ place) m) (i + 0) left₀ (place + 0) m e₁ refl e₂ refl)
      (s ∙ ap (λ (x : ℕ). paste m x (drop i p) 16) e₂ ∙ ap (λ (x : ℕ). paste m (place + 0) (drop x p) 16) e₁) left₀ (omega arith)

  module _ (c q : ℕ) (d : List ℕ) (w : Mid p i place c₀ left₀ m c q d) where
    mid-code : q < 16 → (c ≡ 255 → ⊥) → (b : ℕ) → b ≡ get_or p (i + q) 0 → (d' : List ℕ) → d' ≡ set d (place + q) 0
        → Mid p i place c₀ left₀ m b (q + b) d'
    mid-code h nc b eb d' qd =
        let nz : get_or p (i + q) 0 ≡ 0 → ⊥ = clear q h in
        let ek : w.k ≡ q = elim (dec_lt w.k 16) [ yes g ↦ w.exact g | no g ↦ omega (arith, w.upto) ] in
        let a : From q c 0 w.mem = same_ahead c w.ahead (i + q) 0 (place + q) w.mem (omega arith) (omega arith) (omega arith) refl in
        let s = step-code (length m) p (i + q) (omega arith) nz c (place + q) w.mem (omega arith) nc in
        let on = ahead-on a s in
        let e₁ : i + q + 1 ≡ i + (q + 1) = omega arith in
        let e₂ : place + q + 1 ≡ place + (q + 1) = omega arith in
        let e₃ : 16 - q ≡ 1 + (16 - (q + 1)) = omega arith in
        subst (λ (x : ℕ). Mid p i place c₀ left₀ m x (q + x) d') (sym eb)
        (flow (q + 1) (get_or p (i + q) 0) (get_or p (i + q) 0 - 1) (set w.mem (place + q) 0) d' (omega arith)
        (same_ahead (get_or p (i + q) 0) on (i + (q + 1)) (get_or p (i + q) 0 - 1) (place + (q + 1)) (set w.mem (place + q) 0) e₁ refl e₂ refl)
        (qd
        ∙ ap (λ (x : List ℕ). set x (place + q) 0) (w.shape ∙ ap (λ (x : ℕ). paste w.mem (place + x) (drop (i + x) p) (16 - x)) ek ∙ ap (λ (x : ℕ). paste w.mem (place + q) (drop (i + q) p) x) e₃)
        ∙ set_first w.mem (place + q) (drop (i + q) p) (16 - (q + 1)) 0 (omega (arith, a.long)) (omega (arith, length-drop (i + q) p))
        ∙ ap (λ (x : ℕ). paste (set w.mem (place + q) 0) x (drop 1 (drop (i + q) p)) (16 - (q + 1))) e₂
        ∙ ap (λ (x : List ℕ). paste (set w.mem (place + q) 0) (place + (q + 1)) x (16 - (q + 1))) (drop-drop 1 (i + q) p ∙ ap (λ (x : ℕ). drop x p) e₁))
        (q + get_or p (i + q) 0) (omega (arith, nz)))

    mid-last : 16 ≤ q → Ahead (length m) p i (inside c₀ left₀ place) m (i + 16) (inside c (q - 16) (place + 16)) d
    mid-last h =
        let ek : w.k ≡ 16 = elim (dec_lt w.k 16) [ yes g ↦ absurd (omega (arith, w.exact g)) | no g ↦ omega (arith, w.small) ] in
        let e₀ : 0 ≡ 16 - w.k = omega arith in
        same_ahead c w.ahead (i + 16) (q - 16) (place + 16) d (omega arith) (omega arith) (omega arith)
        (paste-zero w.mem (place + w.k) (drop (i + w.k) p) ∙ ap (λ (x : ℕ). paste w.mem (place + w.k) (drop (i + w.k) p) x) e₀ ∙ sym w.shape)

-- ---- codes of 01 only

module _ (p : List ℕ) (i place : ℕ) (m : List ℕ) (u : ℕ) where
  steps_ones : (t : ℕ) → t ≤ u → i + t ≤ length p → place + t ≤ length m → ((k : ℕ) → k < t → get_or p (i + k) 0 ≡ 1)
      → Ahead (length m) p i (inside 1 0 place) m (i + t) (inside 1 0 (place + t)) (paste m place (replicate u 0) t)
  steps_ones zero hu hi hp f =
      same_ahead 1 (ahead_none (length m) p i (inside 1 0 place) m) (i + 0) 0 (place + 0) (paste m place (replicate u 0) 0)
      (omega arith) refl (omega arith) (paste-zero m place (replicate u 0))
  steps_ones (suc t) hu hi hp f =
      let ih = steps_ones t (omega arith) (omega arith) (omega arith) (λ k l. f k (omega arith)) in
      let m₁ : List ℕ = paste m place (replicate u 0) t in
      let one : get_or p (i + t) 0 ≡ 1 = f t (omega arith) in
      let s = step-code (length m) p (i + t) (omega arith) (λ w. omega (arith, one, w)) 1 (place + t) m₁ (omega arith) (λ w. omega (arith, w)) in
      let same : ◌≡◌ {A = ℕ} 0 (get_or (replicate u 0) t 0) = sym (get_or-replicate u t 0 0 hu) in
      let e₁ : set m₁ (place + t) 0 ≡ set m₁ (place + t) (get_or (replicate u 0) t 0) = ap (set m₁ (place + t)) same in
      let e₂ : set m₁ (place + t) (get_or (replicate u 0) t 0) ≡ paste m place (replicate u 0) (suc t) =
      paste-suc m place (replicate u 0) t 0 (omega arith) (omega (arith, length-replicate {A = ℕ} u 0)) in
      same_ahead 1 (ahead-on ih (subst (λ (b : ℕ). Ahead (length m) p (i + t) (inside 1 0 (place + t)) m₁ (i + t + 1) (inside b (b - 1) (place + t + 1)) (set m₁ (place + t) 0)) one s))
      (i + suc t) 0 (place + suc t) (paste m place (replicate u 0) (suc t)) (omega arith) refl (omega arith) (e₁ ∙ e₂)

pub ones-patched : (p : List ℕ) (i place : ℕ) (o : Open) (d : List ℕ) → i + 16 ≤ length p → place + 16 ≤ length d → o.left ≡ 0 → (o.code ≡ 255 → 16 ≤ o.left)
    → ((k : ℕ) → k < 16 → get_or p (i + k) 0 ≡ 1) → (d' : List ℕ) → d' ≡ paste d place (replicate 16 0) 16 → Patched p i place o d (record { code = 1; left = 0 }) d'
ones-patched p i place o d hp hd z nc f d' q m l e =
    let a = steps_ones p i place m 16 16 (omega arith) hp (omega (arith, l)) f in
    let same : inside 1 0 place ≡ open_at o place = rw (z, ne_eqb o.code 255 (λ w. omega (arith, nc w, z))) in
    let end : paste m place (replicate 16 0) 16 ≡ d' =
    sym (q ∙ ap (λ (x : List ℕ). paste x place (replicate 16 0) 16) e ∙ paste-again m place (drop i p) (replicate 16 0) 16 (omega (arith, l)) (omega (arith, length-drop i p))) in
    subst (λ (r : ℕ). Ahead r p i (open_at o place) m (i + 16) (inside 1 0 (place + 16)) d') l
    (subst (λ (x : CobsDecoder). Ahead (length m) p i x m (i + 16) (inside 1 0 (place + 16)) d') same
    (subst (λ (x : List ℕ). Ahead (length m) p i (inside 1 0 place) m (i + 16) (inside 1 0 (place + 16)) x) end a))

-- ---- from code to code, whatever stood there before the copy

pub record Patching (p : List ℕ) (i : ℕ) (d₀ : List ℕ) (place : ℕ) (o : Open) (d : List ℕ) (c q : ℕ) : Type 0 where
  pub long : length d ≡ length d₀
  pub few : q ≤ 271
  pub full : c ≡ 255 → 16 ≤ q
  pub mid : (m : List ℕ) → length m ≡ length d₀ → d₀ ≡ paste m place (drop i p) 16 → Mid p i place o.code o.left m c q d

module _ (p : List ℕ) (i place : ℕ) (o : Open) (d₀ : List ℕ) (hp : i + 16 ≤ length p) (hd : place + 16 ≤ length d₀) (clear : Clear p i 16) where
  pub patch_first : o.left ≤ 255 → (o.code ≡ 255 → 16 ≤ o.left) → Patching p i d₀ place o d₀ o.code o.left
  patch_first b f =
      record {
        long = refl;
        few = omega (arith, b);
        full = f;
        mid = λ m l s. mid-first p i place o.code o.left m hp (omega (arith, l)) clear d₀ s;
      }

  module _ (d : List ℕ) (c q : ℕ) (w : Patching p i d₀ place o d c q) where
    pub patch_code : q < 16 → (b : ℕ) → b ≡ get_or p (i + q) 0 → b ≤ 255 → Patching p i d₀ place o (set d (place + q) 0) b (q + b)
    patch_code h b eb lb =
        record {
          long = length-set d (place + q) 0 ∙ w.long;
          few = omega arith;
          full = λ e. omega (arith, e);
          mid = λ m l s.
              mid-code p i place o.code o.left m hp (omega (arith, l)) clear c q d (w.mid m l s) h (λ e. absurd (omega (arith, w.full e))) b eb (set d (place + q) 0) refl;
        }

    pub patch_last : 16 ≤ q → Patched p i place o d₀ (record { code = c; left = q - 16 }) d
    patch_last h m l s =
        subst (λ (r : ℕ). Ahead r p i (open_at o place) m (i + 16) (inside c (q - 16) (place + 16)) d) l
        (mid-last p i place o.code o.left m hp (omega (arith, l)) clear c q d (w.mid m l s) h)

-- ---- block by block

pub record Blocks (p : List ℕ) (from : ℕ) (d₀ : List ℕ) (to : ℕ) (o₀ : Open) (d : List ℕ) (i place : ℕ) (o : Open) : Type 0 where
  pub after : from ≤ i
  pub within : i ≤ length p
  pub room : place ≤ length d₀
  pub ahead : Ahead (length d₀) p from (open_at o₀ to) d₀ i (open_at o place) d

module _ (p : List ℕ) (from : ℕ) (d₀ : List ℕ) (to : ℕ) (o₀ : Open) (d : List ℕ) (i place : ℕ) (o : Open) (w : Blocks p from d₀ to o₀ d i place o)
    (h : 16 ≤ length d - place) (clear : is_clear p i ≡ true) (d₁ : List ℕ) (e : d₁ ≡ copied d place p i) where
  is_copy : d₁ ≡ paste d place (drop i p) 16
  is_copy = e ∙ copied-fits d place p i (omega arith) (clear_says p i clear).0

  long : length d₁ ≡ length d
  long = ap length is_copy ∙ length-paste d place (drop i p) 16 (omega arith) (omega (arith, length-drop i p, (clear_says p i clear).0))

  -- sixteen bytes stand in the piece and, copied, in the destination
  pub block-stands : (i + 16 ≤ length p) × (place + 16 ≤ length d₁)
  block-stands = ((clear_says p i clear).0, omega (arith, long, w.room, w.ahead.long))

  pub block-turn : (o' : Open) (d' : List ℕ) → Patched p i place o d₁ o' d' → Blocks p from d₀ to o₀ d' (i + 16) (place + 16) o'
  block-turn o' d' patched =
      let a = patched d (sym long) is_copy in
      record {
        after = omega (arith, w.after);
        within = (clear_says p i clear).0;
        room = omega (arith, w.ahead.long);
        ahead = ahead-on w.ahead (subst (λ (r : ℕ). Ahead r p i (open_at o place) d (i + 16) (open_at o' (place + 16)) d') (long ∙ w.ahead.long) a);
      }
