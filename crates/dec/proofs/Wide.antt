-- Over bytes the decoder stays within its types: what is left of a group fits a byte, and what is written are bytes.
-- Assumes nothing.
use Rattle.std.specs.Prelude.{Ok, Err}
use mathlib.Core.List.{List, [], ◌∷◌}
use Prim.Native.Nat.{ℕ, zero, suc, ◌<◌}
use native.Mathlib.Omega.{arith}
use lib.Dec.{eqb, ltb}
use Rattle.cobs.specs.Code.{Bytes}
use Rattle.cobs.proofs.Wide.{bytes-set}
use Rattle.dec.specs.State.{Given, opened, at_zero, stepped}
use Rattle.dec.specs.Stream.{Outcome, is_more, result_outcome, byte_outcome, result_dest, byte_dest, piece_outcome, piece_dest}
use Rattle.dec.specs.declared.state.DecoderState.{DecoderState}
use Rattle.dec.specs.declared.state.DecoderState.TheVariants.{Idle, Grab, GrabChain}
use Rattle.dec.specs.declared.state.DecodeResult.TheVariants.{NoData, DataStart, DataComplete, DataContinue}
use Rattle.dec.specs.declared.stream.CobsDecoder.{CobsDecoder}
use Rattle.dec.proofs.Cases.{by_bool}
use Rattle.dec.proofs.Pieces.{joined-more, joined_stop, further-next}

-- The bytes left of the open group.
abbrev pub left : DecoderState → ℕ
left Idle = 0
left (Grab n) = n
left (GrabChain n) = n

-- ---- one byte

opened-left : (c : ℕ) → c < 255 → left (opened (suc c)) < 256
opened-left c h = by_bool (eqb (suc c) 255) (λ e. rw e (omega arith)) (λ e. rw e (omega arith))

step_left : (s : DecoderState) (b : ℕ) → left s < 256 → b < 256 → left (stepped s b).state < 256
step_left Idle zero h l = omega arith
step_left Idle (suc n) h l = opened-left n (omega arith)
step_left (Grab k) zero h l = omega arith
step_left (Grab zero) (suc n) h l = opened-left n (omega arith)
step_left (Grab (suc k)) (suc n) h l = omega arith
step_left (GrabChain k) zero h l = omega arith
step_left (GrabChain zero) (suc n) h l = opened-left n (omega arith)
step_left (GrabChain (suc k)) (suc n) h l = omega arith

result-left : (place room : ℕ) (s : DecoderState) (r : Given) → left s < 256 → left (result_outcome place room s r).next.state < 256
result-left place room s (Ok NoData) h = h
result-left place room s (Ok DataStart) h = h
result-left place room s (Ok DataComplete) h = omega arith
result-left place room s (Ok (DataContinue b)) h = by_bool (ltb place room) (λ e. rw e h) (λ e. rw e (omega arith))
result-left place room s (Err _) h = omega arith

byte_left : (d : CobsDecoder) (room b : ℕ) → left d.state < 256 → b < 256 → left (byte_outcome d room b).next.state < 256
unfolding byte_outcome
byte_left d room b h l =
    by_bool d.skip
    (λ e. rw e (by_bool (eqb b 0) (λ z. rw z (omega arith)) (λ z. rw z h)))
    (λ e. rw e (result-left d.place room (stepped d.state b).state (stepped d.state b).result (step_left d.state b h l)))

-- What goes on to the destination is a byte.
abbrev Gives : Given → Type 0
Gives (Ok NoData) = Unit {0}
Gives (Ok DataStart) = Unit {0}
Gives (Ok DataComplete) = Unit {0}
Gives (Ok (DataContinue b)) = b < 256
Gives (Err _) = Unit {0}

zero_gives : (k : ℕ) → Gives (at_zero k)
zero_gives zero = tt
zero_gives (suc k) = tt

step_gives : (s : DecoderState) (b : ℕ) → b < 256 → Gives (stepped s b).result
step_gives Idle zero l = tt
step_gives Idle (suc n) l = tt
step_gives (Grab k) zero l = zero_gives k
step_gives (Grab zero) (suc n) l = omega arith
step_gives (Grab (suc k)) (suc n) l = l
step_gives (GrabChain k) zero l = zero_gives k
step_gives (GrabChain zero) (suc n) l = tt
step_gives (GrabChain (suc k)) (suc n) l = l

result-bytes : (place : ℕ) (r : Given) (m : List ℕ) → Gives r → Bytes m → Bytes (result_dest place r m)
result-bytes place (Ok NoData) m g h = h
result-bytes place (Ok DataStart) m g h = h
result-bytes place (Ok DataComplete) m g h = h
result-bytes place (Ok (DataContinue b)) m g h = bytes-set m place b g h
result-bytes place (Err _) m g h = h

byte-bytes : (d : CobsDecoder) (b : ℕ) (m : List ℕ) → b < 256 → Bytes m → Bytes (byte_dest d b m)
unfolding byte_dest
byte-bytes d b m l h =
    by_bool d.skip (λ e. rw e h) (λ e. rw e (result-bytes d.place (stepped d.state b).result m (step_gives d.state b l) h))

-- ---- a piece

pub piece_left : (p : List ℕ) (d : CobsDecoder) (room : ℕ) → left d.state < 256 → Bytes p → left (piece_outcome d room p).next.state < 256
unfolding piece_outcome
piece_left [] d room h l = h
piece_left (b ∷ p) d room h l =
    let o : Outcome = byte_outcome d room b in
    let first = byte_left d room b h l.0 in
    by_bool (is_more o)
    (λ e. rw (joined-more 1 o (piece_outcome o.next room p) e, further-next 1 (piece_outcome o.next room p)) (piece_left p o.next room first l.1))
    (λ e. rw (joined_stop 1 o (piece_outcome o.next room p) e) first)

pub piece_bytes : (p : List ℕ) (d : CobsDecoder) (room : ℕ) (m : List ℕ) → Bytes p → Bytes m → Bytes (piece_dest d room p m)
unfolding piece_dest
piece_bytes [] d room m l h = h
piece_bytes (b ∷ p) d room m l h =
    let first = byte-bytes d b m l.0 h in
    by_bool (is_more (byte_outcome d room b)) (λ e. rw e (piece_bytes p (byte_outcome d room b).next room (byte_dest d b m) l.1 first)) (λ e. rw e first)
