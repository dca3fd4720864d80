-- What a sender puts on the wire, and so what comes over it, are bytes. Assumes nothing.
use mathlib.Core.Path.{sym, subst}
use mathlib.Core.List.{List, [], ◌∷◌, ◌++◌}
use Prim.Native.Nat.{ℕ, ◌<◌}
use native.Mathlib.Omega.{arith}
use Rattle.cobs.specs.Code.{Bytes, encode}
use Rattle.cobs.proofs.Runs.{each_append, each-front}
use Rattle.cobs.proofs.Wide.{encode-bytes}
use Rattle.record.specs.Record.{written_bytes}
use Rattle.record.proofs.Round.{written-wide}
use Rattle.wire.specs.Again.{joined}
use Rattle.wire.specs.Loop.{framed}
use Rattle.wire.specs.Batch.{Batch, Item, record_of, message, messages}
use Rattle.wire.specs.Demand3.{Delivery, Premises}

both : (s t : List ℕ) → Bytes s → Bytes t → Bytes (s ++ t)
both s t = each_append (λ b. b < 256) s t

message-bytes : (b : Batch) (frame : List Item) → Bytes (message b frame)
unfolding message
message-bytes b [] = tt
message-bytes b (item ∷ frame) = both (written_bytes 0 (record_of b item)) (message b frame) (written-wide (record_of b item)) (message-bytes b frame)

framed-bytes : (b : Batch) (frames : List (List Item)) → Bytes (framed (messages b frames))
framed-bytes b [] = tt
framed-bytes b (frame ∷ frames) =
    both (encode (message b frame)) (0 ∷ framed (messages b frames)) (encode-bytes (message b frame) (message-bytes b frame)) (omega arith, framed-bytes b frames)

pub delivered-bytes : (d : Delivery) → Premises d → Bytes (joined d.pieces)
delivered-bytes d p =
    let q = p.begins in
    let whole = encode-bytes (message d.batch q.frame) (message-bytes d.batch q.frame) in
    let begun : Bytes d.begun = each-front (λ b. b < 256) d.begun q.later (subst Bytes (sym q.front) whole) in
    subst Bytes (sym p.cut) (both (framed (messages d.batch d.frames)) d.begun (framed-bytes d.batch d.frames) begun)
