-- Numbers and the states they name: a state's numbers name it, numbers that name a state are its own, and what the calls
-- leave. Assumes nothing.
use Rattle.std.specs.Prelude.{Option, Some, None}
use mathlib.Core.Path.{◌≡◌, refl, sym, ap, ap₂, ◌∙◌}
use mathlib.Core.Logic.{◌≢◌}
use mathlib.Core.Bool.{Bool, true, false, true≢false, not}
use mathlib.Core.List.{List, [], ◌∷◌, ◌++◌, append-nil}
use Prim.Native.Nat.{ℕ, ◌-◌, ◌%◌, ◌<◌}
use native.Mathlib.Omega.{arith}
use lib.Dec.{eqb}
use lib.ListN.{length, get_or, take, drop, length-append, length-drop, take-append-drop, drop_of_length-le}
use lib.Seq.{take_at}
use borrow.Rule.Slice.PartMut.{put_mid}
use mir.Val.{bool_byte}
use borrow.Author.Tests.{eq-eqb, ne_eqb}
use Rattle.std.specs.Prelude.{Option, Some, None}
use Rattle.std.specs.List.{starts_with}
use Rattle.dec.proofs.Cases.{by_bool}
use Rattle.dec.specs.declared.state.DecoderState.{DecoderState}
use Rattle.dec.specs.declared.state.DecoderState.TheVariants.{Idle, Grab, GrabChain}
use Rattle.batch.specs.declared.Close.{Close}
use Rattle.wire.specs.declared.Wire.{Wire}
use Rattle.numbers.specs.Numbers.{bit, state_numbers, close_numbers, head_of, numbers_of, state_in, close_in, wire_in, names, read_of, written_to, read_back}
use Rattle.numbers.specs.Helpers.{Fits}
use Rattle.numbers.proofs.Same.{same_equal, same-itself, starts_yes, starts_no}

take_all : (l : List ℕ) (n : ℕ) → length l ≡ n → take n l ≡ l
take_all l n e = ap (take n) (sym (append-nil l)) ∙ take_at l [] n e

-- ---- the fields, each by itself

pub head_is : (w : Wire) (b kind left taken count total : ℕ) → b ≡ bit w.decoder.skip → kind ∷ left ∷ [] ≡ state_numbers w.decoder.state
    → taken ∷ count ∷ total ∷ [] ≡ close_numbers w.receiver.close
    → w.decoder.place ∷ b ∷ kind ∷ left ∷ w.receiver.total ∷ taken ∷ count ∷ total ∷ w.receiver.slots ∷ w.receiver.batch ∷ [] ≡ head_of w
unfolding head_of
head_is w b kind left taken count total eb es ec =
    ap (λ (x : ℕ). w.decoder.place ∷ x ∷ kind ∷ left ∷ w.receiver.total ∷ taken ∷ count ∷ total ∷ w.receiver.slots ∷ w.receiver.batch ∷ []) eb
    ∙ ap₂ (λ (x y : List ℕ). w.decoder.place ∷ bit w.decoder.skip ∷ x ++ w.receiver.total ∷ y ++ w.receiver.slots ∷ w.receiver.batch ∷ []) es ec

pub marks-all : (ns : List ℕ) → length ns ≡ 74 → take 64 (drop 10 ns) ≡ drop 10 ns
marks-all ns h = take_all (drop 10 ns) 64 (length-drop 10 ns ∙ omega arith)

pub bit_is : (b : Bool) → bool_byte b ≡ bit b
bit_is true = refl
bit_is false = refl

pub wire_is : (ns : List ℕ) (s : DecoderState) (marks : List ℕ) (c : Option Close) → s ≡ state_in (get_or ns 2 0) (get_or ns 3 0) → marks ≡ drop 10 ns
    → c ≡ close_in (get_or ns 5 0) (get_or ns 6 0) (get_or ns 7 0)
    → record {
      decoder = record { place = get_or ns 0 0; skip = not (eqb (get_or ns 1 0) 0); state = s };
      receiver = record { marks = marks; total = get_or ns 4 0 % 4_294_967_296; close = c; slots = get_or ns 8 0; batch = get_or ns 9 0 % 65_536 };
    } ≡ wire_in ns
unfolding wire_in
wire_is ns s marks c es em ec = rw (es, em, ec) refl

-- ---- what the calls leave

head-long : (w : Wire) → length (head_of w) ≡ 10
unfolding head_of
head-long w = go w.decoder.state w.receiver.close
  where
    go : (s : DecoderState) (c : Option Close)
        → length (w.decoder.place ∷ bit w.decoder.skip ∷ state_numbers s ++ w.receiver.total ∷ close_numbers c ++ w.receiver.slots ∷ w.receiver.batch ∷ []) ≡ 10
    go Idle None = refl
    go Idle (Some c) = refl
    go (Grab k) None = refl
    go (Grab k) (Some c) = refl
    go (GrabChain k) None = refl
    go (GrabChain k) (Some c) = refl

-- read
pub read-long : (ns : List ℕ) → length ns ≢ 74 → None ≡ read_of ns
unfolding read_of names
read-long ns h = rw (ne_eqb (length ns) 74 h)

-- all of them are read, as w, whose head is h
module _ (ns all : List ℕ) (long : length ns ≡ 74) (same_all : all ≡ ns) (w : Wire) (is : w ≡ wire_in all) (h : List ℕ) (head : h ≡ head_of w) (t : Bool)
    (found : t ≡ starts_with eqb ns h) where
  ours : w ≡ wire_in ns
  ours = is ∙ ap wire_in same_all

  ten_ahead : length h ≡ 10
  ten_ahead = ap length head ∙ head-long w

  pub read_named : t ≡ true → Some w ≡ read_of ns
  unfolding read_of names
  read_named e =
      rw (eq-eqb (length ns) 74 long, ← ours, ← head, starts_yes ns h ten_ahead (sym found ∙ e)) refl

  pub read-other : t ≡ false → None ≡ read_of ns
  unfolding read_of names
  read-other e =
      rw (eq-eqb (length ns) 74 long, ← ours, ← head, starts_no ns h ten_ahead (sym found ∙ e)) refl

-- what an answer says of the numbers
pub named_by : (ns : List ℕ) (w : Wire) → Some w ≡ read_of ns → (names ns ≡ true) × (w ≡ wire_in ns)
unfolding read_of
named_by ns w e = by_bool (names ns) (λ q. (q, let s : Some w ≡ Some (wire_in ns) = rw q at e in cc)) (λ q. let s : Some w ≡ None = rw q at e in absurd (cc))

pub none_by : (ns : List ℕ) → None ≡ read_of ns → names ns ≡ false
unfolding read_of
none_by ns e = by_bool (names ns) (λ q. let s : None ≡ Some (wire_in ns) = rw q at e in absurd (cc)) (λ q. q)

-- written
pub write-long : (ns : List ℕ) (w : Wire) → length ns ≢ 74 → ns ≡ written_to ns w
unfolding written_to
write-long ns w h = rw (ne_eqb (length ns) 74 h)

-- the head x is written first, and then the marks m
put_rest : (xs m : List ℕ) → put_mid 10 (length xs - 10) xs m ≡ take 10 xs ++ m
put_rest xs m =
    ap (λ (t : List ℕ). take 10 xs ++ (m ++ t)) (drop_of_length-le (drop 10 xs) {i = length xs - 10} (omega (arith, length-drop 10 xs)))
    ∙ ap (λ (t : List ℕ). take 10 xs ++ t) (append-nil m)

pub write-both : (ns : List ℕ) (w : Wire) → length ns ≡ 74 → (h x m : List ℕ) → h ≡ head_of w → x ≡ h → m ≡ w.receiver.marks
    → put_mid 10 (length (x ++ drop 10 ns) - 10) (x ++ drop 10 ns) m ≡ written_to ns w
unfolding written_to numbers_of
write-both ns w long h x m head first second =
    put_rest (x ++ drop 10 ns) m
    ∙ ap₂ ◌++◌ (take_at x (drop 10 ns) 10 (ap length (first ∙ head) ∙ head-long w) ∙ first ∙ head) second
    ∙ rw (eq-eqb (length ns) 74 long)

-- ---- numbers that name a state are its own

pub named_own : (ns : List ℕ) → names ns ≡ true → numbers_of (wire_in ns) ≡ ns
unfolding names numbers_of wire_in
named_own ns e =
    by_bool (eqb (length ns) 74)
    (λ q. ap (λ (h : List ℕ). h ++ drop 10 ns) (sym (same_equal (take 10 ns) (head_of (wire_in ns)) (rw q at e))) ∙ take-append-drop 10 ns)
    (λ q. absurd (true≢false (sym (rw q at e))))

-- ---- and a state's numbers name it

skip_back : (b : Bool) → not (eqb (bit b) 0) ≡ b
skip_back true = refl
skip_back false = refl

state_pair : (s : DecoderState) → get_or (state_numbers s) 0 0 ∷ get_or (state_numbers s) 1 0 ∷ [] ≡ state_numbers s
state_pair Idle = refl
state_pair (Grab k) = refl
state_pair (GrabChain k) = refl

state-back : (s : DecoderState) → get_or (state_numbers s) 1 0 < 256 → state_in (get_or (state_numbers s) 0 0) (get_or (state_numbers s) 1 0) ≡ s
state-back Idle h = refl
state-back (Grab k) h = ap Grab (omega arith)
state-back (GrabChain k) h = ap GrabChain (omega arith)

close_three : (c : Option Close) → get_or (close_numbers c) 0 0 ∷ get_or (close_numbers c) 1 0 ∷ get_or (close_numbers c) 2 0 ∷ [] ≡ close_numbers c
close_three None = refl
close_three (Some c) = refl

abbrev closed : (count total : ℕ) → Option Close
closed count total = Some (record { count = count; total = total })

close-back : (c : Option Close) → get_or (close_numbers c) 2 0 < 4_294_967_296
    → close_in (get_or (close_numbers c) 0 0) (get_or (close_numbers c) 1 0) (get_or (close_numbers c) 2 0) ≡ c
close-back None h = refl
close-back (Some c) h = ap (closed c.count) {x = c.total % 4_294_967_296} {y = c.total} (omega arith)

pub own_back : (w : Wire) → Fits w → wire_in (numbers_of w) ≡ w
unfolding wire_in numbers_of
own_back w f =
    let t : w.receiver.total % 4_294_967_296 ≡ w.receiver.total = omega (arith, f.total) in
    let b : w.receiver.batch % 65_536 ≡ w.receiver.batch = omega (arith, f.batch) in
    ap (λ (h : List ℕ). wire_in (h ++ w.receiver.marks))
    (sym (head_is w (bit w.decoder.skip) _ _ _ _ _ refl (state_pair w.decoder.state) (close_three w.receiver.close)))
    ∙ rw (skip_back w.decoder.skip, state-back w.decoder.state f.left, close-back w.receiver.close f.closed, t, b) refl

pub own_named : (w : Wire) → Fits w → length w.receiver.marks ≡ 64 → names (numbers_of w) ≡ true
unfolding names numbers_of
own_named w f words =
    let long : length (head_of w ++ w.receiver.marks) ≡ 74 = length-append (head_of w) w.receiver.marks ∙ omega (arith, head-long w, words) in
    rw (eq-eqb (length (head_of w ++ w.receiver.marks)) 74 long, take_at (head_of w) w.receiver.marks 10 (head-long w), own_back w f) (same-itself (head_of w))

-- what `write` leaves is read back as the states, from a list of that many
pub own_read : (w : Wire) → Fits w → length w.receiver.marks ≡ 64 → read_of (numbers_of w) ≡ Some w
unfolding read_of
own_read w f words = rw (own_named w f words, own_back w f)

pub written_read : (ns : List ℕ) (w : Wire) → Fits w → length w.receiver.marks ≡ 64 → length ns ≡ 74 → read_of (written_to ns w) ≡ read_back ns w
unfolding written_to read_back
written_read ns w f words long = rw (eq-eqb (length ns) 74 long) (own_read w f words)

pub other-read : (ns : List ℕ) (w : Wire) → length ns ≢ 74 → read_of ns ≡ read_back ns w
unfolding read_of names read_back
other-read ns w h = rw (ne_eqb (length ns) 74 h)
