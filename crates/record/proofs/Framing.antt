-- A frame written, one law for each way through `write_frame`. Assumes nothing.
use Rattle.std.proofs.Common.{Result, Ok, Err, eqb, eqb-true, ◌≡◌, ℕ, ◌+◌, ◌-◌, ◌/◌, ◌<◌, ◌≤◌, Bool, true, false, List, [], ◌∷◌, ◌++◌, length, take, drop, set, sym, refl, ap, ◌∙◌, ap₂, true≢false, append_assoc, arith}
use Rattle.std.proofs.Common.{length-append, take-append-drop, length-take-le, ltb-false, ltb-true, le-ltb, lt-ltb, if◌then◌else◌}
use lib.Seq.{drop-append-le}
use borrow.Author.Tests.{eqb-false}
use Rattle.cobs.specs.Words.{◌exceeds◌}
use Rattle.cobs.specs.Code.{encode, over}
use Rattle.cobs.specs.Answers.{Told, done, dest_buf_too_small, bad_length, longest, is_done}
use Rattle.cobs.specs.OneShot.{plain, finished, encode_told, encode_dest}
use Rattle.cobs.proofs.Told.{unlike}
use Rattle.cobs.proofs.Over.{over-fits, over_snoc}
use Rattle.enc.specs.OneShot.{told}
use Rattle.enc.specs.declared.oneshot.EncodeError.{EncodeError}
use Rattle.enc.specs.declared.oneshot.EncodeError.TheVariants as encoding
use Rattle.record.specs.Frame.{is_bad_length, records_told, message_told, framed, told_refusal, frame_told, frame_dest}
use Rattle.record.specs.declared.frame.FrameError.{FrameError}
use Rattle.record.specs.declared.frame.FrameError.TheVariants as refusal
use Rattle.record.proofs.Frames.{Whole, whole}

-- ---- the message

pub told_records : (m : List ℕ) → is_bad_length 16 240 (length m) ≡ false → {t : Told} → t ≡ records_told 16 (length m / 16) 0 m → t ≡ message_told 16 240 m
unfolding message_told
told_records m h e = simp h e

-- a message without a refusal is whole
pub whole_told : (m : List ℕ) → message_told 16 240 m ≡ done 0 0 → Whole (length m)
unfolding message_told
whole_told m e = go (is_bad_length 16 240 (length m)) refl e
  where
    go : (b : Bool) → is_bad_length 16 240 (length m) ≡ b → (if b then bad_length else records_told 16 (length m / 16) 0 m) ≡ done 0 0 → Whole (length m)
    go true q e = absurd (unlike e (omega arith))
    go false q e = whole (length m) q

refused : (e : FrameError) → is_done (told_refusal e) ≡ false
refused refusal.BadLength = refl
refused (refusal.BadRecord k) = refl
refused refusal.DestBufTooSmall = refl

-- ---- the answer and the buffer

abbrev pub Writes : (m d : List ℕ) → Told → (u : List ℕ) → Type 0
Writes m d t u = (t ≡ frame_told m (length d)) × (u ≡ frame_dest m d)

framed-length : (m : List ℕ) → length (framed m) ≡ length (encode m) + 1
unfolding framed
framed-length m = length-append (encode m) (0 ∷ [])

module _ (m d : List ℕ) where
  pub writes_refused : (e : FrameError) → told_refusal e ≡ message_told 16 240 m → Writes m d (told_refusal e) d
  unfolding frame_told frame_dest
  writes_refused e q = let h = refused e in (rw (← q, h), rw (← q, h, h))

  module _ (ok : message_told 16 240 m ≡ done 0 0) where
    pub writes_small : length d < length (encode m) + 1 → Writes m d dest_buf_too_small d
    unfolding frame_told frame_dest
    writes_small h =
        let s = lt-ltb (length d) (length (framed m)) (omega (arith, framed-length m)) in
        (rw (ok, s), rw (ok, s))

    pub writes_fits : length (encode m) + 1 ≤ length d → Writes m d (done (length (encode m) + 1) 0) (over (framed m) d)
    unfolding frame_told frame_dest
    writes_fits h =
        let s = le-ltb (length d) (length (framed m)) (omega (arith, framed-length m)) in
        (rw (ok, s, framed-length m), rw (ok, s))

    pub writes_empty : {b : Bool} → b ≡ eqb (length d) 0 → b ≡ true → Writes m d dest_buf_too_small d
    writes_empty e h = let none = eqb-true (length d) 0 (sym e ∙ h) in writes_small (omega arith)

pub some : (d : List ℕ) {b : Bool} → b ≡ eqb (length d) 0 → b ≡ false → 0 < length d
some d e h = let none = eqb-false (length d) 0 (sym e ∙ h) in omega arith

-- ---- the encoding, into all but the last byte

not_length : (x : EncodeError) → is_done (told (Err x)) ≡ false
not_length encoding.TooLong = refl
not_length encoding.DestBufTooSmall = refl

module _ (m d : List ℕ) (ok : message_told 16 240 m ≡ done 0 0) (nonempty : 0 < length d) where
  short : length m ≤ 240
  short = (whole_told m ok).short

  abbrev part : List ℕ
  part = take (length d - 1) d

  part-long : length part ≡ length d - 1
  part-long = length-take-le (length d - 1) d (omega arith)

  -- never TooLong
  told_is : encode_told plain m (length part) ≡ (if length (encode m) exceeds (length d - 1) then dest_buf_too_small else done (length (encode m)) 0)
  unfolding encode_told finished
  told_is = let s = short in rw (le-ltb longest (length m) (omega arith), part-long)

  fits : (n : ℕ) → done n 0 ≡ encode_told plain m (length part) → (n ≡ length (encode m)) × (length (encode m) ≤ length d - 1)
  fits n e = go (length (encode m) exceeds (length d - 1)) refl (e ∙ told_is)
    where
      go : (t : Bool) → (length (encode m) exceeds (length d - 1)) ≡ t → done n 0 ≡ (if t then dest_buf_too_small else done (length (encode m)) 0)
          → (n ≡ length (encode m)) × (length (encode m) ≤ length d - 1)
      go true q e = absurd (unlike e (omega arith))
      go false q e = (ap (λ (x : Told). x.first) e, ltb-false (length d - 1) (length (encode m)) q)

  over-part : (s : List ℕ) → length s ≤ length d - 1 → over s part ++ drop (length d - 1) d ≡ over s d
  over-part s h =
      ap (λ (x : List ℕ). x ++ drop (length d - 1) d) (over-fits s part (omega (arith, part-long)))
      ∙ append_assoc s (drop (length s) part) (drop (length d - 1) d)
      ∙ ap (λ (x : List ℕ). s ++ x)
      (sym (drop-append-le (length s) part (drop (length d - 1) d) (omega (arith, part-long)))
      ∙ ap (drop (length s)) (take-append-drop (length d - 1) d))
      ∙ sym (over-fits s d (omega arith))

  dest-small : length d - 1 < length (encode m) → encode_dest plain m part ≡ part
  unfolding encode_dest
  dest-small h = rw (told_is, lt-ltb (length d - 1) (length (encode m)) h)

  dest-fits : length (encode m) ≤ length d - 1 → encode_dest plain m part ≡ over (encode m) part
  unfolding encode_dest finished
  dest-fits h = rw (told_is, le-ltb (length d - 1) (length (encode m)) h)

  -- the encoder's answer e, and what it left
  module _ (e : Result ℕ EncodeError) (ee : told e ≡ encode_told plain m (length part)) where
    pub place : (n : ℕ) → e ≡ Ok n → n + 1 ≤ length d
    place n q = let h = fits n (sym (ap told q) ∙ ee) in omega (arith, h.0, h.1)

    module _ (u : List ℕ) (eu : u ≡ encode_dest plain m part) where
      pub writes_nothing : (x : EncodeError) → e ≡ Err x → Writes m d dest_buf_too_small (u ++ drop (length d - 1) d)
      writes_nothing x r = go (length (encode m) exceeds (length d - 1)) refl
        where
          go : (t : Bool) → (length (encode m) exceeds (length d - 1)) ≡ t → Writes m d dest_buf_too_small (u ++ drop (length d - 1) d)
          go true q =
              let h = ltb-true (length d - 1) (length (encode m)) q in
              let back : u ++ drop (length d - 1) d ≡ d =
              ap (λ (x : List ℕ). x ++ drop (length d - 1) d) (eu ∙ dest-small h) ∙ take-append-drop (length d - 1) d in
              let w = writes_small m d ok (omega arith) in
              (w.0, back ∙ w.1)
          go false q =
              let told-done : told e ≡ done (length (encode m)) 0 = ee ∙ told_is ∙ rw q in
              absurd (true≢false (sym (ap is_done told-done) ∙ ap (λ (e : Result ℕ EncodeError). is_done (told e)) r ∙ not_length x))

      pub writes_frame : (n : ℕ) → e ≡ Ok n → Writes m d (done (n + 1) 0) (set (u ++ drop (length d - 1) d) n 0)
      unfolding framed
      writes_frame n q =
          let h = fits n (sym (ap told q) ∙ ee) in
          let w = writes_fits m d ok (omega arith) in
          let laid : u ++ drop (length d - 1) d ≡ over (encode m) d =
          ap (λ (x : List ℕ). x ++ drop (length d - 1) d) (eu ∙ dest-fits h.1) ∙ over-part (encode m) h.1 in (
            ap (λ (x : ℕ). done (x + 1) 0) h.0 ∙ w.0,
            ap₂ (λ (x : List ℕ) (k : ℕ). set x k 0) laid h.0 ∙ over_snoc (encode m) 0 d ∙ w.1,
          )
