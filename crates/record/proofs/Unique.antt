-- Two results that meet a function's promise are equal, for every public function. Assumes nothing.
use Rattle.std.specs.Prelude.{⊤}
use Rattle.std.proofs.Common.{◌≡◌, ℕ, Bool, eqb, List, length, drop, Result, Ok, Err, sym, refl, ◌∙◌, ap₂, if◌then◌else◌}
use Rattle.cobs.specs.Answers.{Told, is_done}
use Rattle.cobs.proofs.Told.{one-result}
use Rattle.record.specs.Record.{told_write, write_told, written_bytes, read_of, told_class, class_of}
use Rattle.record.specs.Frame.{is_bad_length, told_frame, frame_told, frame_dest}
use Rattle.record.specs.declared.Record.{Record}
use Rattle.record.specs.declared.Written.{Written}
use Rattle.record.specs.declared.BadRecord.{BadRecord}
use Rattle.record.specs.declared.Class.{Class}
use Rattle.record.specs.declared.frame.FrameError.{FrameError}
use Rattle.record.specs.declared.frame.FrameError.TheVariants as refusal
use Rattle.record.proofs.Valid.{class-told}

-- ---- reading an answer back from what tells it

back_write : Told → Result ⊤ BadRecord
back_write t = if is_done t then Ok tt else Err record {}

write-back : (a : Result ⊤ BadRecord) → back_write (told_write a) ≡ a
unfolding back_write
write-back (Ok _) = refl
write-back (Err _) = refl

back_frame : Told → Result ℕ FrameError
back_frame t =
    if is_done t then Ok t.first
    else if eqb t.number 7 then Err refusal.BadLength
    else if eqb t.number 8 then Err (refusal.BadRecord t.second)
    else Err refusal.DestBufTooSmall

frame_back : (a : Result ℕ FrameError) → back_frame (told_frame a) ≡ a
unfolding back_frame
frame_back (Ok n) = refl
frame_back (Err refusal.BadLength) = refl
frame_back (Err (refusal.BadRecord k)) = refl
frame_back (Err refusal.DestBufTooSmall) = refl

-- ---- the calls

pub unique-write : (item : Record) (r s : Written)
    → told_write r.answer ≡ write_told 0 item → r.bytes ≡ written_bytes 0 item
    → told_write s.answer ≡ write_told 0 item → s.bytes ≡ written_bytes 0 item → r ≡ s
unique-write item r s a b c d =
    ap₂ {C = Written} (λ (x : Result ⊤ BadRecord) (y : List ℕ). record { answer = x; bytes = y })
    (one-result told_write back_write write-back a c) (b ∙ sym d)

pub unique-read : (s : List ℕ) (at : ℕ) (a b : Result Record BadRecord) → a ≡ read_of 0 (drop at s) → b ≡ read_of 0 (drop at s) → a ≡ b
unique-read s at a b p q = p ∙ sym q

pub unique-class_of : (theirs ours : ℕ) (a b : Class) → told_class a ≡ told_class (class_of theirs ours) → told_class b ≡ told_class (class_of theirs ours) → a ≡ b
unique-class_of theirs ours a b p q = class-told a b (p ∙ sym q)

pub unique-is_bad_length : (n : ℕ) (a b : Bool) → a ≡ is_bad_length 16 240 n → b ≡ is_bad_length 16 240 n → a ≡ b
unique-is_bad_length n a b p q = p ∙ sym q

pub unique-write_frame : (m d : List ℕ) (a b : Result ℕ FrameError) (u v : List ℕ)
    → told_frame a ≡ frame_told m (length d) → u ≡ frame_dest m d
    → told_frame b ≡ frame_told m (length d) → v ≡ frame_dest m d → (a ≡ b) × (u ≡ v)
unique-write_frame m d a b u v p s q t = (one-result told_frame back_frame frame_back p q, s ∙ sym t)
