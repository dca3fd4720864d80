-- Decoding with a sentinel into another buffer: the source is measured by the in-place rule, then streamed. Assumes nothing.
use Rattle.std.specs.Prelude.{Err}
use mathlib.Core.Path.{◌≡◌, refl, sym, ap, ◌∙◌}
use mathlib.Core.Bool.{true, false, false≢true}
use mathlib.Core.List.{List, [], ◌∷◌, ◌++◌, append-nil}
use Prim.Native.Nat.{ℕ, zero, suc, ◌+◌, ◌-◌, ◌≤◌, ◌<◌, zero-le, suc-le-suc}
use native.Mathlib.Nat.{not-suc-le-zero}
use native.Mathlib.Omega.{arith}
use lib.Dec.{eqb}
use lib.Bits.{bit_xor}
use lib.ListN.{length, get_or, take, drop, length-append, length-drop}
use lib.Seq.{length-take-le, take-length, drop-length}
use borrow.Author.Tests.{lt-ltb, le-ltb, ne_eqb}
use Rattle.cobs.specs.Code.{body, read, zero_after, over, masked}
use Rattle.cobs.specs.Answers.{Told, is_done, done, invalid_frame, target_buf_too_small}
use Rattle.cobs.specs.OneShot.{leading, meant, decoded, decode_dest, in_place_told, size_alone, with_sentinel_told, with_sentinel_dest}
use Rattle.cobs.proofs.Reading.{by_codes, read_short, read-last, read_more, read_empty}
use Rattle.cobs.proofs.Bodies.{length-body}
use Rattle.cobs.proofs.Told.{unlike}
use Rattle.cobs.proofs.Sentinel.{length-masked}
use Rattle.blocks.specs.Blocks.{masked_front}
use Rattle.dec.specs.Stream.{new, push_dest}
use Rattle.dec.proofs.Cases.{by_bool}
use Rattle.place.proofs.Groups.{body-positive, one_zero, Reached, reached-none, at-short, at_last, at_more}
use Rattle.place.specs.Calls.{refused}
use Rattle.place.specs.Walk.{closed, first}
use Rattle.place.specs.declared.place.BodyError.{BodyError}
use Rattle.place.specs.declared.walk.Walk.{Walk}
use Rattle.place.proofs.Walks.{no_first, First, Past, spans}
use Rattle.place.proofs.Downward.{place_empty, place_none}
use Rattle.dec.proofs.Sources.{push-memory}

-- ---- a masked list

-- all of it, as the front that is as long as the list
pub masked-whole : (s : ℕ) (p : List ℕ) → masked_front s (length p) p ≡ masked s p
unfolding masked_front
masked-whole s p = rw (take-length p, drop-length p, append-nil (masked s p))

-- ---- measuring

-- Of the body of p, the groups before `from` give `to` bytes.
pub record Measured (p : List ℕ) (from to : ℕ) : Type 0 where
  pub got : List ℕ
  pub reached : Reached (body p) from got
  pub size : to ≡ length got
  pub behind : to ≤ from

pub measured-none : (p : List ℕ) → 0 < length (body p) → Measured p 0 0
measured-none p h = record { got = []; reached = reached-none (body p) h; size = refl; behind = zero-le }

pub get_or-masked : (s : ℕ) (p : List ℕ) (i : ℕ) → i < length p → get_or (masked s p) i 0 ≡ bit_xor (get_or p i 0) s
get_or-masked s [] i h = absurd (not-suc-le-zero h)
get_or-masked s (b ∷ p) zero h = refl
get_or-masked s (b ∷ p) (suc i) h = get_or-masked s p i (omega arith)

get_or-body : (p : List ℕ) (i : ℕ) → i < length (body p) → get_or p i 0 ≡ get_or (body p) i 0
get_or-body [] i h = absurd (not-suc-le-zero h)
get_or-body (zero ∷ p) i h = absurd (not-suc-le-zero h)
get_or-body (suc b ∷ p) zero h = refl
get_or-body (suc b ∷ p) (suc i) h = get_or-body p i (omega arith)

-- what the size alone comes to
module _ (p : List ℕ) (some : length p ≡ 0 → ⊥) where
  told-whole : (n : ℕ) → (read (body p)).whole ≡ true → n ≡ length (read (body p)).groups → done n 0 ≡ size_alone (in_place_told p)
  unfolding in_place_told
  told-whole n w e = rw (ne_eqb (length p) 0 some, w, e)

  told-short : (n : ℕ) → (read (body p)).whole ≡ false → n ≡ length (read (body p)).groups → invalid_frame n 0 ≡ size_alone (in_place_told p)
  unfolding in_place_told
  told-short n w e = rw (ne_eqb (length p) 0 some, w, e)

module _ (p : List ℕ) (from to : ℕ) (m : Measured p from to) where
  inside : from < length (body p)
  inside = m.reached.within

  some : length p ≡ 0 → ⊥
  some e = omega (arith, inside, length-body p)

  -- the group's code
  module _ (c : ℕ) (ec : c ≡ get_or p from 0) where
    code_is : c ≡ get_or (body p) from 0
    code_is = ec ∙ get_or-body p from inside

    pub measured-code : 0 < c
    measured-code = rw code_is (body-positive p from inside)

    pub measured-short : length (body p) - from < c → invalid_frame to 0 ≡ size_alone (in_place_told p)
    measured-short s =
        let e = at-short (body p) from m.got m.reached c code_is measured-code s in
        told-short p some to e.1 (m.size ∙ ap length (sym e.0))

    module _ (n : ℕ) (en : n ≡ c - 1) (le : from + 1 + n ≤ length (body p)) where
      more-long : length (take n (drop (from + 1) (body p))) ≡ n
      more-long = length-take-le n (drop (from + 1) (body p)) (simp length-drop (omega arith))

      pub measured-last : from + 1 + n ≡ length (body p) → done (to + n) 0 ≡ size_alone (in_place_told p)
      measured-last q =
          let e = at_last (body p) from m.got m.reached c code_is measured-code n en q in
          told-whole p some (to + n) e.1
          (omega (arith, m.size, more-long, ap length e.0, length-append m.got (take n (drop (from + 1) (body p)))))

      pub measured-more : from + 1 + n < length (body p) → (z : ℕ) → z ≡ length (zero_after c) → Measured p (from + 1 + n) (to + n + z)
      measured-more lt z ez =
          let part : List ℕ = take n (drop (from + 1) (body p)) in
          record {
            got = m.got ++ (take n (drop (from + 1) (body p)) ++ zero_after c);
            reached = at_more (body p) from m.got m.reached c code_is measured-code n en lt;
            size = omega (arith, m.size, more-long, ez, length-append m.got (part ++ zero_after c), length-append part (zero_after c));
            behind = omega (arith, m.behind, ez, one_zero c);
          }

-- ---- along the walk

-- The walk over p's body stands at a group of it.
pub record Sized (p : List ℕ) (w : Walk) : Type 0 where
  pub end : w.end ≡ length (body p)
  pub head : Measured p w.from w.to

pub sized_first : (p : List ℕ) (w : Walk) → First p w → Sized p w
sized_first p w f = record { end = f.end; head = rw (f.from, f.to) (measured-none p f.some) }

-- no walk
pub sized_none : (p : List ℕ) (e : BodyError) → first p ≡ Err e → refused e ≡ size_alone (in_place_told p)
sized_none p e =
    no_first (λ (x : BodyError). refused x ≡ size_alone (in_place_told p)) p e (λ q. ap size_alone (place_empty p q).0)
    (λ n q. ap size_alone (place_none p n q).0)

-- a turn: the walk stands at w, whose code is c
module _ (p : List ℕ) (w : Walk) (i : Sized p w) (c : ℕ) (ec : c ≡ get_or p w.from 0) where
  pub sized_code : 0 < c
  sized_code = measured-code p w.from w.to i.head c ec

  within : w.from < w.end
  within = omega (arith, i.end, i.head.reached.within)

  pub sized_short : w.end - w.from < c → invalid_frame w.to 0 ≡ size_alone (in_place_told p)
  sized_short s = measured-short p w.from w.to i.head c ec (rw i.end at s)

  -- and at v behind the group
  module _ (v : Walk) (q : Past w c v) where
    places : (w.from + 1 + (c - 1) ≡ v.from) × (w.from + 1 + (c - 1) ≤ w.end)
    places = spans w c v q within sized_code

    le : w.from + 1 + (c - 1) ≤ length (body p)
    le = rw i.end at places.1

    pub sized_bounds : (v.to < v.from) × (w.from < v.from) × (v.end ≡ w.end)
    sized_bounds = (omega (arith, places, q.to, i.head.behind), omega (arith, places), q.end)

    pub sized_last : v.from ≡ v.end → done v.to 0 ≡ size_alone (in_place_told p)
    sized_last l = rw q.to (measured-last p w.from w.to i.head c ec (c - 1) refl le (places.0 ∙ l ∙ q.end ∙ i.end))

    pub sized_more : (v.from ≡ v.end → ⊥) → Sized p (closed v c)
    sized_more l =
        record {
          end = q.end ∙ i.end;
          head =
              rw (sym places.0, q.to)
              (measured-more p w.from w.to i.head c ec (c - 1) refl le (omega (arith, l, places, q.end, i.end)) (length (zero_after c)) refl);
        }

-- a code of the masked source
pub masked-code : (s : ℕ) (src : List ℕ) (w : Walk) → Sized (masked s src) w
    → (w.from < length src) × (w.to ≤ w.from) × (w.from < w.end) × (bit_xor (get_or src w.from 0) s ≡ get_or (masked s src) w.from 0)
masked-code s src w i =
    let h : w.from < length src = omega (arith, i.head.reached.within, length-body (masked s src), length-masked s src) in
    (h, i.head.behind, omega (arith, i.end, i.head.reached.within), sym (get_or-masked s src w.from h))

-- ---- streaming

-- a whole body has no short group
whole-short : (b : List ℕ) → (read b).whole ≡ true → (read b).short ≡ []
whole-short =
    by_codes (λ b. (read b).whole ≡ true → (read b).short ≡ [])
    (λ e. absurd (false≢true (rw read_empty at e)))
    (λ c s h e. absurd (false≢true (rw (read_short c s h) at e)))
    (λ c r h e. rw (read-last c r h))
    (λ c r h d s ih e. rw (read_more c r h d s) (ih (rw (read_more c r h d s) at e)))

no_leading : (p : List ℕ) → 0 < length (body p) → leading p ≡ 0
no_leading [] h = absurd (not-suc-le-zero h)
no_leading (zero ∷ p) h = absurd (not-suc-le-zero h)
no_leading (suc b ∷ p) h = refl

some-whole : (b : List ℕ) → (read b).whole ≡ true → 0 < length b
some-whole [] e = absurd (false≢true (rw read_empty at e))
some-whole (c ∷ b) e = suc-le-suc zero-le

-- so the streamed bytes are those of the whole groups
groups-memory : (p d : List ℕ) → (read (body p)).whole ≡ true → push_dest new p d ≡ over (read (body p)).groups d
unfolding decode_dest decoded meant
groups-memory p d w =
    push-memory p d ∙ rw (no_leading p (some-whole (body p) w), whole-short (body p) w, append-nil (read (body p)).groups)

-- ---- the ways through the call

module _ (s : ℕ) (src d : List ℕ) where
  abbrev p : List ℕ
  p = masked s src

  -- The told answer and the memory are those of the call.
  abbrev With : Told → List ℕ → Type 0
  With t m = (t ≡ with_sentinel_told s src (length d)) × (m ≡ with_sentinel_dest s src d)

  pub with-refused : (t : Told) → t ≡ size_alone (in_place_told p) → is_done t ≡ false → With t d
  unfolding with_sentinel_told with_sentinel_dest
  with-refused t e n = (rw (← e, n), rw (← e, n, n))

  module _ (n : ℕ) (e : done n 0 ≡ size_alone (in_place_told p)) where
    pub with-small : length d < n → With (target_buf_too_small 0) d
    unfolding with_sentinel_told with_sentinel_dest
    with-small h = (rw (← e, lt-ltb (length d) n h), rw (← e, lt-ltb (length d) n h))

    is_whole : (read (body p)).whole ≡ true
    unfolding in_place_told
    is_whole =
        by_bool (eqb (length p) 0) (λ q. absurd (unlike (rw q at e) (λ z. omega (arith, z))))
        (λ q. by_bool (read (body p)).whole (λ w. w) (λ w. absurd (unlike (rw (q, w) at e) (λ z. omega (arith, z)))))

    pub with_size : n ≤ length d → (m : List ℕ) → m ≡ push_dest new p d → With (done n 0) m
    unfolding with_sentinel_told with_sentinel_dest
    with_size h m q = (rw (← e, le-ltb (length d) n h), rw (← e, le-ltb (length d) n h) (q ∙ groups-memory p d is_whole))
