-- Each decoding call gives back what an encoding call writes: instances of the laws in OneShot. Assumes nothing.
use Rattle.std.specs.Prelude.{if◌then◌else◌}
use mathlib.Core.Path.{◌≡◌, refl, ap, ◌∙◌}
use mathlib.Core.Bool.{Bool, true, false, false≢true}
use mathlib.Core.List.{List, [], ◌∷◌, ◌++◌, append-nil}
use Prim.Native.Nat.{ℕ, ◌≤◌, zero-le}
use native.Mathlib.Omega.{arith}
use lib.Dec.{ltb}
use lib.ListN.{length, take, length-append, replicate}
use lib.Seq.{take-append_seam}
use borrow.Author.Tests.{ltb-false}
use Rattle.cobs.specs.Code.{encode_in, encode, masked}
use Rattle.cobs.specs.Answers.{Told, done, too_long, dest_buf_too_small, longest, is_done}
use Rattle.cobs.specs.OneShot.{Form, zeros_around, finished, encode_told, encode_dest, decode_told, decode_dest, in_place_told, in_place_dest, size_alone, with_sentinel_told, with_sentinel_dest}
use Rattle.cobs.specs.RoundTrips.{Back, RoundTrips, Ends}
use Rattle.cobs.proofs.Over.{over-fits}
use Rattle.cobs.proofs.Sentinel.{masked_twice}
use Rattle.cobs.proofs.OneShot.{decode-encode, decode_dest-encode, in_place-encode, in_place_dest-encode, with_sentinel-encode, with_sentinel_dest-encode}

-- ---- what an encoding call writes

fits : (form : Form) (m d : List ℕ) → is_done (encode_told form m (length d)) ≡ true
    → (length (finished form m) ≤ length d) × (encode_told form m (length d) ≡ done (length (finished form m)) 0)
unfolding encode_told
fits form m d = go (ltb longest (length m)) (ltb (length d) (length (finished form m))) refl
  where
    go : (long small : Bool) → ltb (length d) (length (finished form m)) ≡ small
        → is_done (if long then too_long else if small then dest_buf_too_small else done (length (finished form m)) 0) ≡ true
        → (length (finished form m) ≤ length d)
        × ((if long then too_long else if small then dest_buf_too_small else done (length (finished form m)) 0) ≡ done (length (finished form m)) 0)
    go true small e h = absurd (false≢true h)
    go false true e h = absurd (false≢true h)
    go false false e h = (ltb-false (length d) (length (finished form m)) e, refl)

written : (form : Form) (m d : List ℕ) → is_done (encode_told form m (length d)) ≡ true
    → take (encode_told form m (length d)).first (encode_dest form m d) ≡ finished form m
unfolding encode_dest
written form m d h =
    let w = fits form m d h in
    rw (h, w.1, over-fits (finished form m) d w.0) (take-append_seam (finished form m) _)

-- ---- and what comes back of it

module _ (m : List ℕ) where
  -- An encoding followed by the end alone.
  whole : encode m ++ [] ≡ encode m
  whole = append-nil (encode m)

  decodes : (d : List ℕ) → length m ≤ length d → Back m d (length (encode m)) (decode_told (encode m) (length d)) (decode_dest (encode m) d)
  decodes d h = record {
    told = rw whole at (decode-encode m [] refl 0 (length d) h) ∙ ap (done (length m)) (omega arith);
    memory = rw whole at (decode_dest-encode m [] refl 0 d);
  }

  decodes-zeros : (d : List ℕ) → length m ≤ length d
      → Back m d (length (finished zeros_around m)) (decode_told (finished zeros_around m) (length d)) (decode_dest (finished zeros_around m) d)
  unfolding finished
  decodes-zeros d h = record {
    told = decode-encode m (0 ∷ []) refl 1 (length d) h ∙ ap (done (length m)) (omega (arith, length-append (encode m) (0 ∷ [])));
    memory = decode_dest-encode m (0 ∷ []) refl 1 d;
  }

  placed_back : (parsed : ℕ) (t : Told) → t ≡ done (length m) parsed → Back m (encode m) parsed t (in_place_dest (encode m))
  placed_back parsed t e = record { told = e; memory = rw whole at (in_place_dest-encode m [] refl) }

  answers : in_place_told (encode m) ≡ done (length m) (length (encode m))
  answers = rw whole at (in_place-encode m [] refl)

  with-sentinel : (s : ℕ) (d : List ℕ) → length m ≤ length d → Back m d 0 (with_sentinel_told s (masked s (encode m)) (length d)) (with_sentinel_dest s (masked s (encode m)) d)
  with-sentinel s d h = record {
    told = rw whole at (with_sentinel-encode m [] refl s d h);
    memory = rw whole at (with_sentinel_dest-encode m [] refl s d h);
  }

  pub round_trips : RoundTrips m
  unfolding finished
  round_trips = record {
    written = λ form d h. written form m d h;
    decode = decodes;
    decode_zeros = decodes-zeros;
    report = placed_back (length (encode m)) (in_place_told (encode m)) answers;
    in_place = placed_back 0 (size_alone (in_place_told (encode m))) (ap size_alone answers);
    in_place_sentinel = λ s. rw (masked_twice s (encode m)) (placed_back 0 (size_alone (in_place_told (encode m))) (ap size_alone answers));
    with_sentinel = with-sentinel;
  }

pub ends : Ends
unfolding finished encode encode_in
ends = record {
  nothing = (round_trips []).decode [] zero-le;
  full = (round_trips (replicate 254 1)).decode (replicate 254 0) (omega arith);
  nothing_sentinel = (round_trips []).with_sentinel 255 [] zero-le;
  full_sentinel = (round_trips (replicate 254 1)).with_sentinel 255 (replicate 254 0) (omega arith);
}
