-- Decoding in place: a turn of the loop, and the ways out of it. Assumes nothing.
use mathlib.Core.Path.{◌≡◌, refl, sym, ap, ◌∙◌}
use mathlib.Core.Bool.{false}
use mathlib.Core.List.{List, [], ◌∷◌, ◌++◌, append_assoc}
use Prim.Native.Nat.{ℕ, ◌+◌, ◌-◌, ◌≤◌, ◌<◌}
use native.Mathlib.Nat.{le_refl}
use native.Mathlib.Omega.{arith}
use lib.Dec.{eqb}
use lib.ListN.{length, get_or, set, take, drop, length-drop, take-append-drop}
use lib.Seq.{paste, paste-zero, take-paste, drop-paste, length-paste, take_all, length-take-le}
use borrow.Author.Tests.{eqb-true, eqb-false, ne_eqb}
use Rattle.cobs.specs.Code.{body, read_in, read, zero_after, over}
use Rattle.cobs.specs.Answers.{Told, done, empty_frame, invalid_frame}
use Rattle.cobs.specs.OneShot.{in_place_told, in_place_dest}
use Rattle.cobs.proofs.Bodies.{length-body}
use Rattle.cobs.proofs.Over.{over-fits}
use Rattle.dec.proofs.Cases.{by_bool, drop-next}
use Rattle.std.specs.Prelude.{Err}
use Rattle.place.proofs.Copies.{drop-later, part-take, set-paste}
use Rattle.place.proofs.Walks.{no_first, First, Past, spans}
use Rattle.place.specs.Calls.{refused}
use Rattle.place.specs.Walk.{closed, first}
use Rattle.place.specs.declared.place.BodyError.{BodyError}
use Rattle.place.specs.declared.walk.Walk.{Walk}
use Rattle.place.proofs.Groups.{body-take, body-positive, one_zero, Reached, reached-none, at-short, at_last, at_more}

-- The told answer and the memory are those of decoding m₀ in place.
abbrev Placed : (m₀ : List ℕ) (t : Told) (m : List ℕ) → Type 0
Placed m₀ t m = (t ≡ in_place_told m₀) × (m ≡ in_place_dest m₀)

pub place_empty : (m : List ℕ) → length m ≡ 0 → Placed m empty_frame m
unfolding in_place_told in_place_dest read read_in
place_empty [] e = (refl, refl)
place_empty (b ∷ m) e = absurd (omega arith)

pub place_none : (m : List ℕ) → (length m ≡ 0 → ⊥) → length (body m) ≡ 0 → Placed m (invalid_frame 0 0) m
unfolding in_place_told in_place_dest read read_in
place_none m n e =
    let z : body m ≡ [] = sym (body-take m) ∙ ap (λ (k : ℕ). take k m) e in
    (rw (ne_eqb (length m) 0 n, z), rw z)

-- The buffer m, of which the groups of m₀'s body before `from` are decoded to the bytes before `to`; what is not read stands as it stood.
pub record Head (m₀ m : List ℕ) (from to : ℕ) : Type 0 where
  pub reached : Reached (body m₀) from (take to m)
  pub behind : to ≤ from
  pub long : length m ≡ length m₀
  pub rest : drop to m ≡ drop to m₀

pub head_first : (m : List ℕ) → 0 < length (body m) → Head m m 0 0
head_first m h = record { reached = reached-none (body m) h; behind = omega arith; long = refl; rest = refl }

-- the bytes of all groups stand before `to`
settled : (m₀ m : List ℕ) (to : ℕ) (g : List ℕ) → take to m ≡ g → to ≤ length m → drop to m ≡ drop to m₀ → length m ≡ length m₀
    → (to ≡ length g) × (m ≡ over g m₀)
settled m₀ m to g e h r l =
    let n : to ≡ length g = sym (length-take-le to m h) ∙ ap length e in (
      n,
      sym (take-append-drop to m)
          ∙ ap (λ (x : List ℕ). x ++ drop to m) e
          ∙ ap (λ (x : List ℕ). g ++ x) r
          ∙ ap (λ (k : ℕ). g ++ drop k m₀) n
          ∙ sym (over-fits g m₀ (omega arith)),
    )

module _ (m₀ m : List ℕ) (from to : ℕ) (h : Head m₀ m from to) where
  abbrev b : List ℕ
  b = body m₀

  inside : from < length (body m₀)
  inside = h.reached.within

  fits : length (body m₀) ≤ length m
  fits = omega (arith, length-body m₀, h.long)

  not_empty : eqb (length m₀) 0 ≡ false
  not_empty = ne_eqb (length m₀) 0 (λ e. omega (arith, length-body m₀, inside))

  -- the bytes that are not read are the body's
  part_is : (j n : ℕ) → to ≤ j → j + n ≤ length (body m₀) → take n (drop j m) ≡ take n (drop j (body m₀))
  part_is j n le hi =
      ap (take n) (drop-later m m₀ to j h.rest le)
      ∙ sym (part-take j n (length (body m₀)) m₀ hi)
      ∙ ap (λ (x : List ℕ). take n (drop j x)) (body-take m₀)

  code_is : get_or m from 0 ≡ get_or (body m₀) from 0
  code_is =
      let e : take 1 (drop from m) ≡ take 1 (drop from (body m₀)) = part_is from 1 h.behind (omega (arith, inside)) in
      let q : take 1 (get_or m from 0 ∷ drop (from + 1) m) ≡ take 1 (get_or (body m₀) from 0 ∷ drop (from + 1) (body m₀)) =
      sym (ap (take 1) (drop-next m from (omega (arith, inside, fits)))) ∙ e ∙ ap (take 1) (drop-next (body m₀) from inside) in
      cc

  pub code-positive : 0 < get_or m from 0
  code-positive = rw code_is (body-positive m₀ from inside)

  -- a short group: what is decoded so far is all
  pub place_short : length (body m₀) - from < get_or m from 0 → Placed m₀ (invalid_frame to 0) m
  unfolding in_place_told in_place_dest
  place_short s =
      let e = at-short (body m₀) from (take to m) h.reached (get_or m from 0) code_is code-positive s in
      let d = settled m₀ m to (read (body m₀)).groups (sym e.0) (omega (arith, h.behind, inside, fits)) h.rest h.long in
      (rw (not_empty, e.1) (ap (λ (k : ℕ). invalid_frame k 0) d.0), d.1)

  -- a whole group, copied
  module _ (n : ℕ) (en : n ≡ get_or m from 0 - 1) (le : from + 1 + n ≤ length (body m₀)) (m₁ : List ℕ) (e₁ : m₁ ≡ paste m to (drop (from + 1) m) n) where
    enough : n ≤ length (drop (from + 1) m)
    enough = simp length-drop (omega (arith, fits))

    part : take n (drop (from + 1) m) ≡ take n (drop (from + 1) (body m₀))
    part = part_is (from + 1) n (omega (arith, h.behind)) le

    long₁ : length m₁ ≡ length m
    long₁ = rw e₁ (length-paste m to (drop (from + 1) m) n (omega (arith, h.behind, fits)) enough)

    take₁ : take (to + n) m₁ ≡ take to m ++ take n (drop (from + 1) (body m₀))
    take₁ = rw e₁ (take-paste m to (drop (from + 1) m) n (omega (arith, h.behind, inside, fits)) enough) ∙ ap (λ (x : List ℕ). take to m ++ x) part

    drop₁ : drop (to + n) m₁ ≡ drop (to + n) m₀
    drop₁ =
        rw e₁ (drop-paste m to (drop (from + 1) m) n (omega (arith, h.behind, inside, fits)) enough)
        ∙ drop-later m m₀ to (to + n) h.rest (omega arith)

    -- the last
    pub place-last : from + 1 + n ≡ length (body m₀) → Placed m₀ (done (to + n) (length (body m₀))) m₁
    unfolding in_place_told in_place_dest
    place-last q =
        let e = at_last (body m₀) from (take to m) h.reached (get_or m from 0) code_is code-positive n en q in
        let d = settled m₀ m₁ (to + n) (read (body m₀)).groups (take₁ ∙ sym e.0) (omega (arith, h.behind, fits, long₁)) drop₁ (long₁ ∙ h.long) in
        (rw (not_empty, e.1) (ap (λ (k : ℕ). done k (length (body m₀))) d.0), d.1)

    -- or with another after it, and its zero
    module _ (m₂ : List ℕ) (e₂ : m₂ ≡ paste m₁ (to + n) (zero_after (get_or m from 0)) (length (zero_after (get_or m from 0)))) where
      abbrev z : List ℕ
      z = zero_after (get_or m from 0)

      pub place-more : from + 1 + n < length (body m₀) → (to' : ℕ) → to' ≡ to + n + length z → Head m₀ m₂ (from + 1 + n) to'
      place-more lt to' et =
          let l₂ : length m₂ ≡ length m₁ = rw e₂ (length-paste m₁ (to + n) z (length z) (omega (arith, h.behind, fits, one_zero (get_or m from 0), long₁)) (le_refl (length z))) in
          let t₂ : take (to + n + length z) m₂ ≡ take to m ++ (take n (drop (from + 1) (body m₀)) ++ z) =
          rw e₂ (take-paste m₁ (to + n) z (length z) (omega (arith, h.behind, fits, long₁)) (le_refl (length z)))
          ∙ ap (λ (x : List ℕ). take (to + n) m₁ ++ x) (take_all (length z) z (le_refl (length z)))
          ∙ ap (λ (x : List ℕ). x ++ z) take₁
          ∙ append_assoc (take to m) (take n (drop (from + 1) (body m₀))) z in
          let d₂ : drop (to + n + length z) m₂ ≡ drop (to + n + length z) m₀ =
          rw e₂ (drop-paste m₁ (to + n) z (length z) (omega (arith, h.behind, fits, long₁)) (le_refl (length z)))
          ∙ drop-later m₁ m₀ (to + n) (to + n + length z) drop₁ (omega arith) in
          record {
            reached =
                rw (et, t₂) (at_more (body m₀) from (take to m) h.reached (get_or m from 0) code_is code-positive n en lt);
            behind = omega (arith, one_zero (get_or m from 0), h.behind);
            long = l₂ ∙ long₁ ∙ h.long;
            rest = rw et d₂;
          }

-- ---- along the walk

-- The walk over m₀'s body stands at a group of it.
pub record Walked (m₀ m : List ℕ) (w : Walk) : Type 0 where
  pub end : w.end ≡ length (body m₀)
  pub head : Head m₀ m w.from w.to

pub walked_first : (m : List ℕ) (w : Walk) → First m w → Walked m m w
walked_first m w f = record { end = f.end; head = rw (f.from, f.to) (head_first m f.some) }

-- no walk
pub walked_none : (m : List ℕ) (e : BodyError) → first m ≡ Err e → Placed m (refused e) m
walked_none m e = no_first (λ (x : BodyError). Placed m (refused x) m) m e (place_empty m) (place_none m)

-- a turn: the walk stands at w, whose code is c
module _ (m₀ m : List ℕ) (w : Walk) (i : Walked m₀ m w) where
  abbrev c : ℕ
  c = get_or m w.from 0

  pub walked_code : 0 < get_or m w.from 0
  walked_code = code-positive m₀ m w.from w.to i.head

  pub walked_bounds : (w.to ≤ w.from) × (w.from < w.end) × (w.end ≤ length m)
  walked_bounds = (i.head.behind, omega (arith, i.end, i.head.reached.within), omega (arith, i.end, length-body m₀, i.head.long))

  pub walked_short : w.end - w.from < get_or m w.from 0 → Placed m₀ (invalid_frame w.to 0) m
  walked_short s = place_short m₀ m w.from w.to i.head (rw i.end at s)

  -- and at v behind the group
  module _ (v : Walk) (p : Past w (get_or m w.from 0) v) where
    places : (w.from + 1 + (c - 1) ≡ v.from) × (w.from + 1 + (c - 1) ≤ w.end)
    places = spans w c v p walked_bounds.1 walked_code

    le : w.from + 1 + (c - 1) ≤ length (body m₀)
    le = rw i.end at places.1

    pub walked_copy : (w.to ≤ v.to) × (w.from + 1 + (v.to - w.to) ≤ length m) × (v.to < v.from) × (w.from < v.from)
    walked_copy = (omega (arith, p.to), omega (arith, places, p.to, walked_bounds), omega (arith, places, p.to, walked_bounds), omega (arith, places))

    module _ (m₁ : List ℕ) (e₁ : m₁ ≡ paste m w.to (drop (w.from + 1) m) (v.to - w.to)) where
      pasted : m₁ ≡ paste m w.to (drop (w.from + 1) m) (c - 1)
      pasted =
          let n : v.to - w.to ≡ c - 1 = omega (arith, p.to) in
          e₁ ∙ ap (paste m w.to (drop (w.from + 1) m)) n

      pub walked_last : v.from ≡ v.end → Placed m₀ (done v.to v.end) m₁
      walked_last l = rw (p.to, p.end ∙ i.end) (place-last m₀ m w.from w.to i.head (c - 1) refl le m₁ pasted (places.0 ∙ l ∙ p.end ∙ i.end))

      pub walked_more : (m₂ : List ℕ) → (c ≡ 255 → m₂ ≡ m₁) → ((c ≡ 255 → ⊥) → m₂ ≡ set m₁ v.to 0) → (v.from ≡ v.end → ⊥) → Walked m₀ m₂ (closed v c)
      walked_more m₂ full other l =
          let b : v.to < length m₁ = omega (arith, long₁ m₀ m w.from w.to i.head (c - 1) refl le m₁ pasted, places, p.to, walked_bounds) in
          let closing : m₂ ≡ paste m₁ v.to (zero_after c) (length (zero_after c)) =
          by_bool (eqb c 255) (λ q. rw q (full (eqb-true c 255 q) ∙ paste-zero m₁ v.to []))
          (λ q. rw q (other (eqb-false c 255 q) ∙ set-paste m₁ v.to 0 b)) in
          record {
            end = p.end ∙ i.end;
            head =
                rw (sym places.0)
                (place-more m₀ m w.from w.to i.head (c - 1) refl le m₁ pasted m₂ (rw p.to at closing) (omega (arith, l, places, p.end, i.end)) (v.to + length (zero_after c)) (rw p.to));
          }
