-- Bytes copied down within a list, and parts of a list. Assumes nothing.
use mathlib.Core.Path.{◌≡◌, refl, sym, ap, ◌∙◌}
use mathlib.Core.List.{List, [], ◌∷◌}
use Prim.Native.Nat.{ℕ, zero, suc, ◌+◌, ◌-◌, ◌≤◌, ◌<◌}
use native.Mathlib.Numerals.{add-one}
use native.Mathlib.Omega.{arith}
use lib.ListN.{length, get_or, take, drop, set}
use lib.Seq.{get_or-drop, paste, paste-suc, drop-paste, drop-drop, take-take, set_split, append_snoc}

-- past what was pasted, the list is as it was
beyond : (d : List ℕ) (at : ℕ) (s : List ℕ) (n k : ℕ) → at ≤ length d → n ≤ length s → at + n ≤ k → get_or (paste d at s n) k 0 ≡ get_or d k 0
beyond d at s n k hd hs le =
    let e : at + n + (k - (at + n)) ≡ k = omega arith in
    sym (ap (λ (j : ℕ). get_or (paste d at s n) j 0) e)
    ∙ sym (get_or-drop (at + n) (paste d at s n) (k - (at + n)) 0)
    ∙ ap (λ (l : List ℕ). get_or l (k - (at + n)) 0) (drop-paste d at s n hd hs)
    ∙ get_or-drop (at + n) d (k - (at + n)) 0
    ∙ ap (λ (j : ℕ). get_or d j 0) e

-- a turn of a copy downwards, which reads the list that it writes
pub copy-turn : (m : List ℕ) (from to k : ℕ) → to ≤ from → k < length (drop from m) → to + k < length m
    → set (paste m to (drop from m) k) (to + k) (get_or (paste m to (drop from m) k) (from + k) 0) ≡ paste m to (drop from m) (k + 1)
copy-turn m from to k le hs hd =
    let e : get_or (paste m to (drop from m) k) (from + k) 0 ≡ get_or (drop from m) k 0 =
    beyond m to (drop from m) k (from + k) (omega arith) (omega arith) (omega arith) ∙ sym (get_or-drop from m k 0) in
    rw (e, add-one) (paste-suc m to (drop from m) k 0 hd hs)

-- a store is a paste of one
pub set-paste : (m : List ℕ) (at v : ℕ) → at < length m → set m at v ≡ paste m at (v ∷ []) 1
set-paste m at v h = set_split m at v h ∙ rw add-one (sym (append_snoc (take at m) v (drop (suc at) m)))

-- lists that are equal from some place on are equal from any later place on
pub drop-later : (m m₀ : List ℕ) (to j : ℕ) → drop to m ≡ drop to m₀ → to ≤ j → drop j m ≡ drop j m₀
drop-later m m₀ to j e le =
    let q : to + (j - to) ≡ j = omega arith in
    sym (ap (λ (k : ℕ). drop k m) q) ∙ sym (drop-drop (j - to) to m) ∙ ap (drop (j - to)) e ∙ drop-drop (j - to) to m₀ ∙ ap (λ (k : ℕ). drop k m₀) q

-- a part within the first e elements
pub part-take : (j n e : ℕ) (l : List ℕ) → j + n ≤ e → take n (drop j (take e l)) ≡ take n (drop j l)
part-take zero n e l h = take-take n e l (omega arith)
part-take (suc j) n zero l h = absurd (omega arith)
part-take (suc j) n (suc e) [] h = refl
part-take (suc j) n (suc e) (x ∷ l) h = part-take j n e l (omega arith)
