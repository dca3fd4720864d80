-- The three forms of output: what a one-shot call answers and leaves, each way out. Assumes nothing.
use Rattle.std.specs.Prelude.{Result, Ok, Err, IsErrAnd}
use Rattle.std.proofs.Common.{rules}
use Rattle.std.proofs.lemmas.Result.{err_from_is_err_and}
use mathlib.Core.Path.{◌≡◌, refl, sym}
use mathlib.Core.List.{List, [], ◌∷◌, append-nil}
use Prim.Native.Nat.{ℕ, suc, ◌+◌, ◌-◌, ◌≤◌, ◌<◌}
use native.Mathlib.Numerals.{add-one}
use native.Mathlib.Omega.{arith}
use lib.ListN.{length, take, drop, set, length-append}
use lib.Seq.{take-append_seam, drop-append_seam, take-length, drop-length}
use borrow.Rule.Slice.PartMut.{put_mid}
use borrow.Author.Tests.{lt-ltb, le-ltb}
use Rattle.cobs.specs.Code.{encode, over, masked}
use Rattle.cobs.specs.Answers.{done, too_long, dest_buf_too_small, longest}
use Rattle.cobs.specs.OneShot.{Form, plain, zeros_around, chosen, finished, encode_told, encode_dest}
use Rattle.cobs.specs.Lengths.{length_told}
use Rattle.cobs.specs.declared.refusals.DestBufTooSmall.{DestBufTooSmall}
use Rattle.cobs.proofs.Lengths.{length_ok, length_err}
use Rattle.cobs.proofs.Over.{over_snoc, over-fits}
use Rattle.cobs.proofs.Sentinel.{length-masked}
use Rattle.blocks.specs.Blocks.{masked_front}
use Rattle.enc.specs.Fast.{room_for}
use Rattle.enc.specs.OneShot.{told}
use Rattle.enc.specs.declared.oneshot.EncodeError.{EncodeError}

-- ---- what is said of the room

module _ (m : List ℕ) (room : ℕ) where
  pub fits_is : length (encode m) ≤ room → Ok tt ≡ room_for m room
  fits_is h = rw (le-ltb room (length (encode m)) h)

  pub fits-says : Ok tt ≡ room_for m room → length (encode m) ≤ room
  fits-says q = search rules

  pub small-says : (e : DestBufTooSmall) → Err e ≡ room_for m room → room < length (encode m)
  small-says e q = search rules

-- a refusal that became one of this call's
pub refused : (r : Result ℕ EncodeError) (x : EncodeError) → IsErrAnd r (λ e. e ≡ x) → told r ≡ told (Err x)
refused r x h = let p = err_from_is_err_and r h in rw (p.1, p.2)

-- ---- each way out, whatever the form

module _ (form : Form) (m d : List ℕ) where
  pub form_long : too_long ≡ length_told (length m) → (too_long ≡ encode_told form m (length d)) × (d ≡ encode_dest form m d)
  unfolding encode_told encode_dest
  form_long q = rw (lt-ltb longest (length m) (length_err (length m) q)) (refl, refl)

  module _ (most : ℕ) (q : done most 0 ≡ length_told (length m)) where
    few : length m ≤ longest
    few = (length_ok (length m) most q).0

    pub form_small : length d < length (finished form m) → (dest_buf_too_small ≡ encode_told form m (length d)) × (d ≡ encode_dest form m d)
    unfolding encode_told encode_dest
    form_small l = rw (le-ltb longest (length m) few, lt-ltb (length d) (length (finished form m)) l) (refl, refl)

    pub form_fits : length (finished form m) ≤ length d → (n : ℕ) → n ≡ length (finished form m) → (d' : List ℕ) → d' ≡ over (finished form m) d
        → (done n 0 ≡ encode_told form m (length d)) × (d' ≡ encode_dest form m d)
    unfolding encode_told encode_dest
    form_fits l n qn d' qd = rw (le-ltb longest (length m) few, le-ltb (length d) (length (finished form m)) l, qn, qd) (refl, refl)

-- ---- the forms

pub plain_is : (m : List ℕ) → finished plain m ≡ encode m
unfolding finished
plain_is m = refl

pub length-around : (m : List ℕ) → length (finished zeros_around m) ≡ length (encode m) + 2
unfolding finished
length-around m = omega (arith, length-append (encode m) (0 ∷ []))

-- a zero first, and the encoding put into the part behind it
pub inner_is : (m d part : List ℕ) → 0 < length d → part ≡ over (encode m) (take (length (set d 0 0) - 1) (drop 1 (set d 0 0)))
    → put_mid 1 (length (set d 0 0) - 1) (set d 0 0) part ≡ over (0 ∷ encode m) d
inner_is m [] part h q = absurd (omega arith)
inner_is m (x ∷ d) part h q =
    let e : suc (length d) - 1 ≡ length d = omega arith in
    rw (q, e, take-length d, drop-length d, append-nil (over (encode m) d))

-- and a zero behind that
pub around_is : (m d : List ℕ) → set (over (0 ∷ encode m) d) (length (encode m) + 1) 0 ≡ over (finished zeros_around m) d
unfolding finished
around_is m d = rw (add-one (length (encode m))) (over_snoc (0 ∷ encode m) 0 d)

pub length-chosen : (s : ℕ) (m : List ℕ) → length (finished (chosen s) m) ≡ length (encode m)
unfolding finished
length-chosen s m = length-masked s (encode m)

-- the encoding, and then its bytes masked
pub chosen_is : (s : ℕ) (m d : List ℕ) → length (encode m) ≤ length d
    → masked_front s (length (encode m)) (over (encode m) d) ≡ over (finished (chosen s) m) d
unfolding finished masked_front
chosen_is s m d h =
    rw
    (over-fits (encode m) d h, take-append_seam (encode m) (drop (length (encode m)) d), drop-append_seam (encode m) (drop (length (encode m)) d), ← length-masked s (encode m))
    (sym (over-fits (masked s (encode m)) d (omega (arith, length-masked s (encode m)))))
