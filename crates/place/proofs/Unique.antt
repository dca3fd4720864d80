-- Two results that meet a function's promise are equal, the memory behind its `&mut` with them, for every public function.
-- Assumes nothing.
use Rattle.std.specs.Prelude.{Result, Ok, Err, if◌then◌else◌}
use mathlib.Core.Path.{◌≡◌, refl}
use mathlib.Core.List.{List}
use Prim.Native.Nat.{ℕ}
use lib.Dec.{eqb}
use lib.ListN.{length}
use Rattle.cobs.specs.Answers.{Told, is_done}
use Rattle.cobs.specs.Code.{masked}
use Rattle.cobs.specs.OneShot.{in_place_told, in_place_dest, size_alone, with_sentinel_told, with_sentinel_dest}
use Rattle.dec.specs.declared.decode.DecodeError.{DecodeError}
use Rattle.dec.specs.declared.decode.DecodeError.TheVariants as decode
use Rattle.dec.specs.declared.stream.Frame.{Frame}
use Rattle.dec.proofs.Unique.{Meets, one}
use Rattle.place.specs.Calls.{report_told, place_told, with_told}
use Rattle.place.specs.declared.place.BodyError.{BodyError}
use Rattle.place.specs.declared.place.BodyError.TheVariants as body

-- ---- what tells an answer, read back

refused-back : Told → BodyError
refused-back t = if eqb t.number 1 then body.EmptyFrame else body.InvalidFrame t.first

report-back : Told → Result Frame BodyError
report-back t = if is_done t then Ok (record { size = t.first; parsed = t.second }) else Err (refused-back t)

report-undone : (r : Result Frame BodyError) → report-back (report_told r) ≡ r
unfolding report-back refused-back
report-undone (Ok frame) = refl
report-undone (Err body.EmptyFrame) = refl
report-undone (Err (body.InvalidFrame bytes)) = refl

place-back : Told → Result ℕ BodyError
place-back t = if is_done t then Ok t.first else Err (refused-back t)

place-undone : (r : Result ℕ BodyError) → place-back (place_told r) ≡ r
unfolding place-back refused-back
place-undone (Ok size) = refl
place-undone (Err body.EmptyFrame) = refl
place-undone (Err (body.InvalidFrame bytes)) = refl

with-back : Told → Result ℕ DecodeError
with-back t =
    if is_done t then Ok t.first
    else if eqb t.number 1 then Err decode.EmptyFrame
    else if eqb t.number 2 then Err (decode.InvalidFrame t.first)
    else Err decode.TargetBufTooSmall

with-undone : (r : Result ℕ DecodeError) → with-back (with_told r) ≡ r
unfolding with-back
with-undone (Ok size) = refl
with-undone (Err decode.EmptyFrame) = refl
with-undone (Err (decode.InvalidFrame bytes)) = refl
with-undone (Err decode.TargetBufTooSmall) = refl

-- ---- the calls

abbrev Reports : (buf : List ℕ) → Result Frame BodyError → List ℕ → Type 0
Reports buf = Meets report_told (in_place_told buf) (in_place_dest buf)

pub unique-decode_in_place_report : (buf : List ℕ) (r s : Result Frame BodyError) (k l : List ℕ) → Reports buf r k → Reports buf s l → (r ≡ s) × (k ≡ l)
unique-decode_in_place_report buf r s k l p q = one report_told report-back report-undone (in_place_told buf) (in_place_dest buf) r s k l p q

abbrev Places : (buf : List ℕ) → Result ℕ BodyError → List ℕ → Type 0
Places buf = Meets place_told (size_alone (in_place_told buf)) (in_place_dest buf)

pub unique-decode_in_place : (buf : List ℕ) (r s : Result ℕ BodyError) (k l : List ℕ) → Places buf r k → Places buf s l → (r ≡ s) × (k ≡ l)
unique-decode_in_place buf r s k l p q = one place_told place-back place-undone (size_alone (in_place_told buf)) (in_place_dest buf) r s k l p q

pub unique-decode_in_place_with_sentinel : (sentinel : ℕ) (buf : List ℕ) (r s : Result ℕ BodyError) (k l : List ℕ)
    → Places (masked sentinel buf) r k → Places (masked sentinel buf) s l → (r ≡ s) × (k ≡ l)
unique-decode_in_place_with_sentinel sentinel buf r s k l p q = unique-decode_in_place (masked sentinel buf) r s k l p q

abbrev DecodesWith : (sentinel : ℕ) (src dest : List ℕ) → Result ℕ DecodeError → List ℕ → Type 0
DecodesWith sentinel src dest = Meets with_told (with_sentinel_told sentinel src (length dest)) (with_sentinel_dest sentinel src dest)

pub unique-decode_with_sentinel : (sentinel : ℕ) (src dest : List ℕ) (r s : Result ℕ DecodeError) (k l : List ℕ)
    → DecodesWith sentinel src dest r k → DecodesWith sentinel src dest s l → (r ≡ s) × (k ≡ l)
unique-decode_with_sentinel sentinel src dest r s k l p q =
    one with_told with-back with-undone (with_sentinel_told sentinel src (length dest)) (with_sentinel_dest sentinel src dest) r s k l p q
