-- The round trip: a record that is written is read back, and one that is read is written back the same. Assumes nothing.
use Rattle.std.proofs.Common.{◌≡◌, ℕ, suc, ◌+◌, ◌-◌, ◌*◌, ◌/◌, ◌%◌, ◌<◌, ◌≤◌, Bool, true, false, leb, List, [], ◌∷◌, ◌++◌, length, get_or, take, drop, replicate, ℤ, pos, negsuc, Result, Ok, Err, sym, refl, ap, ◌∙◌, ap₂, mod-eq_of_lt, zero-add, arith, drop-cons, le-leb, leb-true, if◌then◌else◌}
use Rattle.std.proofs.lemmas.Bool.{and_parts}
use native.Mathlib.Nat.{add-mul-mod_self_left, add-mul-div_left, div-eq_of_lt}
use native.Mathlib.Decide.{dec_lt}
use lib.Signed.{mag}
use Rattle.cobs.specs.Code.{Bytes}
use Rattle.cobs.specs.Answers.{done, bad_record, is_done}
use Rattle.cobs.proofs.Told.{unlike}
use Rattle.cobs.proofs.Wide.{bytes-at, bytes-zeros}
use Rattle.record.specs.Record.{bytes16, bytes32, bits, signed, fields_of, bytes_of, fields_for, record_in, is_valid, write_told, written_bytes, is_record, read_of}
use Rattle.record.specs.declared.Fields.{Fields}
use Rattle.record.specs.declared.Record.{Record}
use Rattle.record.specs.declared.Record.TheVariants.{Particle, Close}
use Rattle.record.specs.declared.BadRecord.{BadRecord}
use Rattle.record.proofs.Signs.{bits_small, signed_low, signed_high}
use Rattle.record.proofs.Valid.{Valid, valid-says}
use Rattle.record.proofs.Valid as valid

-- ---- numbers and their bytes

two : (n : ℕ) → n < 65536 → n % 256 + 256 * (n / 256 % 256) ≡ n
two n h = omega arith

four : (n : ℕ) → n < 4294967296
    → n % 65536 % 256 + 256 * (n % 65536 / 256 % 256) + 65536 * (n / 65536 % 256 + 256 * (n / 65536 / 256 % 256)) ≡ n
four n h = omega (arith, two (n % 65536) (omega arith), two (n / 65536) (omega arith))

low : (m a b : ℕ) → a < m → (a + m * b) % m ≡ a
low m a b h = add-mul-mod_self_left a m b ∙ mod-eq_of_lt h

high : (m a b : ℕ) → a < m → (a + m * b) / m ≡ b
high m a b h = add-mul-div_left a b (omega arith) ∙ (ap (λ (x : ℕ). x + b) (div-eq_of_lt h) ∙ zero-add b)

two_bytes : (a b : ℕ) → a < 256 → b < 256 → bytes16 (a + 256 * b) ≡ a ∷ b ∷ []
two_bytes a b h k = rw (low 256 a b h, high 256 a b h, mod-eq_of_lt k)

four_bytes : (a b c d : ℕ) → a < 256 → b < 256 → c < 256 → d < 256
    → bytes32 (a + 256 * b + 65536 * (c + 256 * d)) ≡ a ∷ b ∷ c ∷ d ∷ []
four_bytes a b c d ha hb hc hd =
    ap₂ (λ (x y : ℕ). bytes16 x ++ bytes16 y)
    (low 65536 (a + 256 * b) (c + 256 * d) (omega arith)) (high 65536 (a + 256 * b) (c + 256 * d) (omega arith))
    ∙ ap₂ (λ (x y : List ℕ). x ++ y) (two_bytes a b ha hb) (two_bytes c d hc hd)

-- ---- numbers and their 16 bits

signed-bits : (x : ℤ) → mag x < 32768 → signed (bits x) ≡ x
signed-bits (pos n) h = signed_low n h
signed-bits (negsuc n) h =
    signed_high (65536 - suc n) (omega arith) ∙ ap negsuc {x = 65536 - suc (65536 - suc n)} {y = n} (omega arith)

bits-signed : (n : ℕ) → n < 65536 → bits (signed n) ≡ n
bits-signed n h =
    elim (dec_lt n 32768) [
      | yes l ↦ ap bits (signed_low n l)
      | no l ↦ ap bits (signed_high n (omega arith)) ∙ omega arith
    ]

-- ---- from a record to its bytes and back

-- Each number is one that its field can hold.
pub data Holds : Record → Type 0 where
  particle : (batch index : ℕ) (x y z : ℤ) (weight : ℕ) → batch < 65536 → index < 65536
      → mag x < 32768 → mag y < 32768 → mag z < 32768 → weight < 4294967296 → Holds (Particle batch index x y z weight)
  close : (batch count total : ℕ) → batch < 65536 → count < 65536 → total < 4294967296 → Holds (Close batch count total)

record Small (f : Fields) : Type 0 where
  batch : f.batch < 65536
  index : f.index < 65536
  x : f.x < 65536
  y : f.y < 65536
  z : f.z < 65536
  weight : f.weight < 4294967296

fields-bytes : (f : Fields) (t : List ℕ) → Small f → fields_of (bytes_of f ++ t) ≡ f
unfolding fields_of bytes_of
fields-bytes f t h =
    rw (two f.batch h.batch, two f.index h.index, two f.x h.x, two f.y h.y, two f.z h.z, four f.weight h.weight)

-- they are sixteen
whole-bytes : (f : Fields) (t : List ℕ) → leb 16 (length (bytes_of f ++ t)) ≡ true
unfolding bytes_of
whole-bytes f t = le-leb 16 (length (bytes_of f ++ t)) (omega arith)

small : {r : Record} → Holds r → Small (fields_for 0 r)
unfolding fields_for
small (particle b i x y z w hb hi hx hy hz hw) =
    record { batch = hb; index = hi; x = bits_small x hx; y = bits_small y hy; z = bits_small z hz; weight = hw }
small (close b n t hb hn ht) = record { batch = hb; index = hn; x = omega arith; y = omega arith; z = omega arith; weight = ht }

record-fields : {r : Record} → Holds r → record_in (fields_for 0 r) ≡ r
unfolding fields_for record_in
record-fields (particle b i x y z w hb hi hx hy hz hw) = simp (signed-bits x hx, signed-bits y hy, signed-bits z hz)
record-fields (close b n t hb hn ht) = refl

was_valid : (ok : Bool) → (if ok then done 0 0 else bad_record 0) ≡ done 0 0 → ok ≡ true
was_valid true e = refl
was_valid false e = absurd (unlike e (omega arith))

pub read-written : (r : Record) (t : List ℕ) → Holds r → write_told 0 r ≡ done 0 0 → read_of 0 (written_bytes 0 r ++ t) ≡ Ok r
unfolding write_told written_bytes is_record read_of
read-written r t h e =
    let ok : is_valid 0 (fields_for 0 r) ≡ true = was_valid (is_valid 0 (fields_for 0 r)) e in
    rw (ok, whole-bytes (fields_for 0 r) t, fields-bytes (fields_for 0 r) t (small h), ok, record-fields h)

-- ---- from the bytes to a record and back

-- what is read as a record is one
pub read_is : (s : List ℕ) (r : Record) → read_of 0 s ≡ Ok r → is_record 0 s ≡ true
unfolding read_of
read_is s r e = go (is_record 0 s) e
  where
    go : (ok : Bool) → if◌then◌else◌ {A = Result Record BadRecord} ok (Ok (record_in (fields_of s))) (Err record {}) ≡ Ok r → ok ≡ true
    go true e = refl
    go false e = let z : ◌≡◌ {A = ℕ} 0 1 = cc in absurd (omega arith)

pub read_not : (s : List ℕ) → read_of 0 s ≡ Err record {} → is_record 0 s ≡ false
unfolding read_of
read_not s e = go (is_record 0 s) e
  where
    go : (ok : Bool) → if◌then◌else◌ {A = Result Record BadRecord} ok (Ok (record_in (fields_of s))) (Err record {}) ≡ Err record {} → ok ≡ false
    go true e = let z : ◌≡◌ {A = ℕ} 0 1 = cc in absurd (omega arith)
    go false e = refl

-- What a record that was read says of its bytes.
pub record Says (s : List ℕ) (r : Record) : Type 0 where
  pub whole : 16 ≤ length s
  pub valid : is_valid 0 (fields_of s) ≡ true
  pub item : record_in (fields_of s) ≡ r

pub read-says : (s : List ℕ) (r : Record) → read_of 0 s ≡ Ok r → Says s r
unfolding is_record read_of
read-says s r e =
    let is = and_parts (leb 16 (length s)) (is_valid 0 (fields_of s)) (read_is s r e) in
    let found = rw (is.0, is.1) at e in
    record { whole = leb-true 16 (length s) is.0; valid = is.1; item = cc }

alike : (f : Fields) (x y z k b : ℕ) → x ≡ f.x → y ≡ f.y → z ≡ f.z → k ≡ f.kind → b ≡ f.board
    → ◌≡◌ {A = Fields} (record { batch = f.batch; index = f.index; x = x; y = y; z = z; kind = k; board = b; weight = f.weight }) f
alike f x y z k b ex ey ez ek eb = simp (ex, ey, ez, ek, eb)

fields-record : (f : Fields) → Small f → Valid f → fields_for 0 (record_in f) ≡ f
unfolding fields_for record_in
fields-record f h (valid.particle b k w) =
    simp k
    (alike f (bits (signed f.x)) (bits (signed f.y)) (bits (signed f.z)) 1 0
    (bits-signed f.x h.x) (bits-signed f.y h.y) (bits-signed f.z h.z) (sym k) (sym b))
fields-record f h (valid.close b k n x y z) = simp k (alike f 0 0 0 2 0 (sym x) (sym y) (sym z) (sym k) (sym b))

small-fields : (s : List ℕ) → Bytes s → Small (fields_of s)
unfolding fields_of
small-fields s b =
    let h = bytes-at s b in
    record {
      batch = omega (arith, h 0, h 1);
      index = omega (arith, h 2, h 3);
      x = omega (arith, h 4, h 5);
      y = omega (arith, h 6, h 7);
      z = omega (arith, h 8, h 9);
      weight = omega (arith, h 12, h 13, h 14, h 15);
    }

step : (s : List ℕ) (n k : ℕ) → k < length s → take (suc n) (drop k s) ≡ get_or s k 0 ∷ take n (drop (suc k) s)
step s n k h = rw (drop-cons s k 0 h)

sixteen : (s : List ℕ) → 16 ≤ length s → take 16 s ≡
    get_or s 0 0 ∷ get_or s 1 0 ∷ get_or s 2 0 ∷ get_or s 3 0 ∷ get_or s 4 0 ∷ get_or s 5 0 ∷ get_or s 6 0 ∷ get_or s 7 0
    ∷ get_or s 8 0 ∷ get_or s 9 0 ∷ get_or s 10 0 ∷ get_or s 11 0 ∷ get_or s 12 0 ∷ get_or s 13 0 ∷ get_or s 14 0 ∷ get_or s 15 0 ∷ []
sixteen s h =
    rw (
      step s 15 0 (omega arith),
      step s 14 1 (omega arith),
      step s 13 2 (omega arith),
      step s 12 3 (omega arith),
      step s 11 4 (omega arith),
      step s 10 5 (omega arith),
      step s 9 6 (omega arith),
      step s 8 7 (omega arith),
      step s 7 8 (omega arith),
      step s 6 9 (omega arith),
      step s 5 10 (omega arith),
      step s 4 11 (omega arith),
      step s 3 12 (omega arith),
      step s 2 13 (omega arith),
      step s 1 14 (omega arith),
      step s 0 15 (omega arith),
    )

bytes-fields : (s : List ℕ) → Bytes s → 16 ≤ length s → bytes_of (fields_of s) ≡ take 16 s
unfolding bytes_of fields_of
bytes-fields s b l =
    let h = bytes-at s b in
    ap₂ (λ (a b : List ℕ). a ++ b) (two_bytes (get_or s 0 0) (get_or s 1 0) (h 0) (h 1))
    (ap₂ (λ (a b : List ℕ). a ++ b) (two_bytes (get_or s 2 0) (get_or s 3 0) (h 2) (h 3))
    (ap₂ (λ (a b : List ℕ). a ++ b) (two_bytes (get_or s 4 0) (get_or s 5 0) (h 4) (h 5))
    (ap₂ (λ (a b : List ℕ). a ++ b) (two_bytes (get_or s 6 0) (get_or s 7 0) (h 6) (h 7))
    (ap₂ (λ (a b : List ℕ). a ++ b) (two_bytes (get_or s 8 0) (get_or s 9 0) (h 8) (h 9))
    (ap (λ (a : List ℕ). get_or s 10 0 ∷ get_or s 11 0 ∷ a)
    (four_bytes (get_or s 12 0) (get_or s 13 0) (get_or s 14 0) (get_or s 15 0) (h 12) (h 13) (h 14) (h 15)))))))
    ∙ sym (sixteen s l)

pub written_read : (s : List ℕ) (r : Record) → Bytes s → read_of 0 s ≡ Ok r
    → (write_told 0 r ≡ done 0 0) × (written_bytes 0 r ≡ take 16 s)
unfolding write_told written_bytes
written_read s r h e =
    let ok = read-says s r e in
    let same : fields_for 0 r ≡ fields_of s =
    ap (fields_for 0) (sym ok.item) ∙ fields-record (fields_of s) (small-fields s h) (valid-says (fields_of s) ok.valid) in
    (rw (same, ok.valid), rw (same, ok.valid) (bytes-fields s h ok.whole))

-- a particle that is read weighs no more than it may
pub read-weight : (s : List ℕ) {b i : ℕ} {x y z : ℤ} {w : ℕ} → read_of 0 s ≡ Ok (Particle b i x y z w) → w ≤ 1000000
unfolding record_in
read-weight s {b} {i} {x} {y} {z} {w} e = go (fields_of s) (valid-says (fields_of s) (read-says s (Particle b i x y z w) e).valid) (read-says s (Particle b i x y z w) e).item
  where
    go : (f : Fields) → Valid f → record_in f ≡ Particle b i x y z w → w ≤ 1000000
    go f (valid.particle ok k light) q =
        let p = simp k at q in
        let same : f.weight ≡ w = cc in
        omega arith
    go f (valid.close ok k n x0 y0 z0) q =
        let p = simp k at q in
        let never : ◌≡◌ {A = ℕ} 0 1 = cc in
        absurd (omega arith)

-- and the total of a close that is read fits 32 bits
pub read-total : (s : List ℕ) {b n t : ℕ} → Bytes s → read_of 0 s ≡ Ok (Close b n t) → t < 4294967296
unfolding record_in
read-total s {b} {n} {t} h e =
    let says = read-says s (Close b n t) e in
    go (fields_of s) (small-fields s h) (valid-says (fields_of s) says.valid) says.item
  where
    go : (f : Fields) → Small f → Valid f → record_in f ≡ Close b n t → t < 4294967296
    go f w (valid.particle ok k light) q =
        let p = simp k at q in
        let never : ◌≡◌ {A = ℕ} 0 1 = cc in
        absurd (omega arith)
    go f w (valid.close ok k n x0 y0 z0) q =
        let p = simp k at q in
        let same : f.weight ≡ t = cc in
        omega (arith, w.weight)

-- ---- what is written are bytes

two-below : (n : ℕ) {X : Type 0} → X → (n % 256 < 256) × ((n / 256 % 256 < 256) × X)
two-below n x = (omega arith, (omega arith, x))

fields-wide : (f : Fields) → f.kind < 256 → f.board < 256 → Bytes (bytes_of f)
unfolding bytes_of
fields-wide f k b =
    let weight = two-below (f.weight % 65536) (two-below (f.weight / 65536) tt) in
    two-below f.batch (two-below f.index (two-below f.x (two-below f.y (two-below f.z (k, (b, weight))))))

pub written-wide : (r : Record) → Bytes (written_bytes 0 r)
unfolding written_bytes fields_for
written-wide r = by (is_done (write_told 0 r)) r
  where
    by : (ok : Bool) (r : Record) → Bytes (if ok then bytes_of (fields_for 0 r) else replicate 16 0)
    by true (Particle b i x y z w) = fields-wide (fields_for 0 (Particle b i x y z w)) (omega arith) (omega arith)
    by true (Close b n t) = fields-wide (fields_for 0 (Close b n t)) (omega arith) (omega arith)
    by false r = bytes-zeros 16
