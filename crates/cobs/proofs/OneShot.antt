-- What the one-shot answers come to: what follows the zero does not matter, and an encoding is decoded to its message.
-- Assumes nothing.
use mathlib.Core.Path.{◌≡◌, refl, ap, ◌∙◌}
use mathlib.Core.Bool.{false}
use mathlib.Core.List.{List, [], ◌∷◌, ◌++◌, append-nil}
use Prim.Native.Nat.{ℕ, zero, suc, ◌+◌, ◌≤◌, ◌<◌}
use native.Mathlib.Nat.{not-suc-le-zero, le_of_suc-le-suc}
use native.Mathlib.Omega.{arith}
use lib.Dec.{eqb}
use lib.ListN.{length, drop, replicate, length-append, length-replicate}
use lib.Seq.{drop-append-le, drop_at}
use borrow.Author.Tests.{le-ltb, ne_eqb}
use Rattle.cobs.specs.Code.{encode, body, ended, over, masked}
use Rattle.cobs.specs.Answers.{done}
use Rattle.cobs.specs.OneShot.{leading, closing, skipped, parsed, meant, decoded, decode_told, decode_dest, in_place_told, in_place_dest, with_sentinel_told, with_sentinel_dest}
use Rattle.cobs.proofs.Encoding.{encode_no_zero, encode_nonempty}
use Rattle.cobs.proofs.Reading.{read-encode}
use Rattle.cobs.proofs.Bodies.{body-front, body-after, leading-none, leading_zeros, closing-front, closing_after}
use Rattle.cobs.proofs.Sentinel.{masked_twice}

some : (s t : List ℕ) (b : ℕ) → length (s ++ b ∷ t) ≡ 0 → ⊥
some s t b e = omega (arith, length-append s (b ∷ t))

-- ---- what stands after the zero does not matter

leading-front : (s t : List ℕ) → leading s < length s → leading (s ++ t) ≡ leading s
leading-front [] t h = absurd (not-suc-le-zero h)
leading-front (zero ∷ s) t h = ap suc (leading-front s t (le_of_suc-le-suc h))
leading-front (suc b ∷ s) t h = refl

-- to `decode`, once a byte before it is not zero
module _ (s t u : List ℕ) (h : leading s < length s) where
  skipped-front : (r : List ℕ) → skipped (s ++ r) ≡ skipped s ++ r
  skipped-front r = ap (λ (n : ℕ). drop n (s ++ r)) (leading-front s r h) ∙ drop-append-le (leading s) s r (omega arith)

  meant-after : meant (s ++ 0 ∷ t) ≡ meant (s ++ 0 ∷ u)
  unfolding meant
  meant-after = rw (skipped-front (0 ∷ t), skipped-front (0 ∷ u), body-after (skipped s) t, body-after (skipped s) u)

  parsed-after : parsed (s ++ 0 ∷ t) ≡ parsed (s ++ 0 ∷ u)
  unfolding parsed
  parsed-after =
      rw (skipped-front (0 ∷ t), skipped-front (0 ∷ u), leading-front s (0 ∷ t) h, leading-front s (0 ∷ u) h, body-after (skipped s) t, body-after (skipped s) u, closing_after (skipped s) t u)

  pub decode-after : (room : ℕ) → decode_told (s ++ 0 ∷ t) room ≡ decode_told (s ++ 0 ∷ u) room
  unfolding decode_told decoded
  decode-after room =
      rw (ne_eqb (length (s ++ 0 ∷ t)) 0 (some s t 0), ne_eqb (length (s ++ 0 ∷ u)) 0 (some s u 0), meant-after, parsed-after)

  pub decode_dest-after : (d : List ℕ) → decode_dest (s ++ 0 ∷ t) d ≡ decode_dest (s ++ 0 ∷ u) d
  unfolding decode_dest decoded
  decode_dest-after d = rw meant-after

-- and in place
pub in_place-after : (s t u : List ℕ) → in_place_told (s ++ 0 ∷ t) ≡ in_place_told (s ++ 0 ∷ u)
unfolding in_place_told
in_place-after s t u =
    rw (ne_eqb (length (s ++ 0 ∷ t)) 0 (some s t 0), ne_eqb (length (s ++ 0 ∷ u)) 0 (some s u 0), body-after s t, body-after s u)

-- ---- an encoding is decoded to its message, with the end or a zero and anything after it

module _ (m t : List ℕ) (e : body t ≡ []) where
  first_body : body (encode m ++ t) ≡ encode m
  first_body = body-front (encode m) t (encode_no_zero m) e

  not_empty : (z : ℕ) → eqb (length (replicate z 0 ++ (encode m ++ t))) 0 ≡ false
  not_empty z =
      ne_eqb (length (replicate z 0 ++ (encode m ++ t))) 0
      (λ q. omega (arith, length-append (replicate z 0) (encode m ++ t), length-append (encode m) t, encode_nonempty m))

  -- and with so many zeros before it
  module _ (z : ℕ) where
    abbrev src : List ℕ
    src = replicate z 0 ++ (encode m ++ t)

    starts : leading src ≡ z
    starts = leading_zeros z (encode m ++ t) ∙ omega (arith, leading-none (encode m) t (encode_no_zero m) (encode_nonempty m))

    skips : skipped src ≡ encode m ++ t
    skips = ap (λ (n : ℕ). drop n src) starts ∙ drop_at (replicate z 0) (encode m ++ t) z (length-replicate z 0)

    meant-encode : meant src ≡ ended m
    unfolding meant
    meant-encode = rw (skips, first_body) (read-encode m)

    pub decode-encode : (room : ℕ) → length m ≤ room → decode_told src room ≡ done (length m) (z + length (encode m) + closing t)
    unfolding decode_told decoded parsed
    decode-encode room h =
        rw (not_empty z, meant-encode, append-nil m, le-ltb room (length m) h, skips, starts, first_body, closing-front (encode m) t (encode_no_zero m))

    pub decode_dest-encode : (d : List ℕ) → decode_dest src d ≡ over m d
    unfolding decode_dest decoded
    decode_dest-encode d = rw (meant-encode, append-nil m)

  -- in place
  pub in_place-encode : in_place_told (encode m ++ t) ≡ done (length m) (length (encode m))
  unfolding in_place_told
  in_place-encode = rw (not_empty 0, first_body, read-encode m)

  pub in_place_dest-encode : in_place_dest (encode m ++ t) ≡ over m (encode m ++ t)
  unfolding in_place_dest
  in_place_dest-encode = rw (first_body, read-encode m)

  -- with any sentinel, into another buffer
  module _ (s : ℕ) (d : List ℕ) (h : length m ≤ length d) where
    pub with_sentinel-encode : with_sentinel_told s (masked s (encode m ++ t)) (length d) ≡ done (length m) 0
    unfolding with_sentinel_told
    with_sentinel-encode = rw (masked_twice s (encode m ++ t), in_place-encode, le-ltb (length d) (length m) h)

    pub with_sentinel_dest-encode : with_sentinel_dest s (masked s (encode m ++ t)) d ≡ over m d
    unfolding with_sentinel_dest
    with_sentinel_dest-encode = rw (with_sentinel-encode, masked_twice s (encode m ++ t), first_body, read-encode m)
