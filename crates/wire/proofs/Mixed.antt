-- Our frames with anything else among them, byte by byte: each frame is answered, and the state is left as if ours alone had come.
-- Assumes nothing.
use mathlib.Core.Path.{◌≡◌, refl, sym, ap, ap₂, ◌∙◌, subst}
use mathlib.Core.Bool.{true}
use mathlib.Core.List.{List, [], ◌∷◌, ◌++◌, append_assoc}
use Prim.Native.Nat.{ℕ, ◌*◌, ◌≤◌}
use native.Mathlib.Omega.{arith}
use lib.ListN.{length}
use Rattle.cobs.specs.Answers.{Told}
use Rattle.cobs.specs.Code.{encode, over}
use Rattle.cobs.proofs.Over.{length_over}
use Rattle.dec.specs.Stream.{new, is_more, push_outcome}
use Rattle.batch.proofs.Good.{Good}
use Rattle.wire.specs.Again.{Run}
use Rattle.wire.specs.Loop.{Side}
use Rattle.wire.specs.Receive.{End, Seen, accepting}
use Rattle.wire.specs.Batch.{Batch, count, Sendable, Item, message, messages, AllOf, Frame}
use Rattle.wire.specs.Among.{Came, ours, other, idle, bytes_of, ours_in, AllCame, expected_among}
use Rattle.wire.proofs.Loop.{Alike, by_bytes, length_push}
use Rattle.wire.proofs.Frames.{waiting, deliver-one, deliver-front, idle_zero}
use Rattle.wire.proofs.Sums.{all_of_append}
use Rattle.wire.proofs.Receiving.{Holding, after_all, message-long, shows-held, accepts}
use Rattle.wire.proofs.Others.{refuses}
use Rattle.wire.proofs.Accepting.{Fine, fit, keeps, answers}

module _ (b : Batch) (can : Sendable b) (n : ℕ) (slotted : count b * 16 ≤ n) (room : ℕ) (wide : 240 ≤ room)
    (p : List ℕ) (front : is_more (push_outcome new room p) ≡ true) where
  -- what is said, the state, and the decoder inside the frame begun
  pub record Left (l : List Item) (cs : List Came) (e : End) (r : Run (Side End) Seen) : Type 0 where
    pub says : r.said ≡ expected_among b l cs
    pub state : r.side.state ≡ after_all e (messages b (ours_in cs))
    pub decoder : r.side.decoder ≡ (push_outcome new room p).next
    pub long : length r.side.buffer ≡ room

  pub left-alike : (l : List Item) (cs : List Came) (e : End) {r s : Run (Side End) Seen} → Alike accepting Fine fit keeps r s → Left l cs e s → Left l cs e r
  left-alike l cs e a x = record {
    says = a.said ∙ x.says;
    state = ap (λ (w : Side End). w.state) a.side ∙ x.state;
    decoder = ap (λ (w : Side End). w.decoder) a.side ∙ x.decoder;
    long = ap (λ (w : Side End). length w.buffer) a.side ∙ x.long;
  }

  abbrev over-bytes : (buffer : List ℕ) → End → (bytes : List ℕ) → Run (Side End) Seen
  over-bytes buffer e s = by_bytes accepting Fine fit keeps (waiting accepting Fine fit keeps answers buffer e) s

  fine : (e : End) → Good e.receiver n → length e.table ≡ n → Fine e
  unfolding Fine
  fine e q long = rw long q

  frame-fits : (o : Batch) → Sendable o → (f : List Item) → Frame o f → (buffer : List ℕ) → length buffer ≡ room → length (message o f) ≤ length buffer
  frame-fits o x f g buffer lb = omega (arith, message-long o x f g.ours, g.most)

  pub mixed : (cs : List Came) → AllCame b cs → (l : List Item) → AllOf b l → (buffer : List ℕ) → length buffer ≡ room
      → (e : End) → Holding b can n slotted l e.receiver → Good e.receiver n → length e.table ≡ n
      → Left l cs e (over-bytes buffer e (bytes_of b cs ++ p))
  mixed [] g l a buffer lb e h q long =
      left-alike l [] e (deliver-front accepting Fine fit keeps answers buffer e (fine e q long) p (rw lb front))
      (record { says = refl; state = refl; decoder = rw lb refl; long = length_push new p buffer ∙ lb })
  mixed (ours f ∷ cs) g l a buffer lb e h q long =
      let m : List ℕ = message b f in
      let c = accepts b can n slotted l a f g.0 e h q long in
      let r =
      mixed cs g.1 (l ++ f) (all_of_append b l f a g.0.ours) (over m buffer) (length_over m buffer ∙ lb) (accepting.after e m) c.holds c.good c.long in
      rw (append_assoc (encode m) (0 ∷ bytes_of b cs) p)
      (left-alike l (ours f ∷ cs) e (deliver-one accepting Fine fit keeps answers buffer e (fine e q long) m (bytes_of b cs ++ p) (frame-fits b can f g.0 buffer lb))
      (record {
        says = ap₂ ◌∷◌ (ap₂ (λ (t : Told) (v : Seen). record { answer = t; shown = v }) c.says c.shows) r.says;
        state = r.state;
        decoder = r.decoder;
        long = r.long;
      }))
  mixed (other o f ∷ cs) g l a buffer lb e h q long =
      let m : List ℕ = message o f in
      let x = refuses b o (omega arith) g.0 f g.1 e h.batch (rw long q) in
      let r : Left l cs e (over-bytes (over m buffer) (accepting.after e m) (bytes_of b cs ++ p)) =
      subst (λ (z : End). Left l cs e (over-bytes (over m buffer) z (bytes_of b cs ++ p))) (sym x.leaves)
      (mixed cs g.2 l a (over m buffer) (length_over m buffer ∙ lb) e h q long) in
      rw (append_assoc (encode m) (0 ∷ bytes_of b cs) p)
      (left-alike l (other o f ∷ cs) e (deliver-one accepting Fine fit keeps answers buffer e (fine e q long) m (bytes_of b cs ++ p) (frame-fits o g.0.sendable f g.1 buffer lb))
      (record {
        says = ap₂ ◌∷◌ (ap₂ (λ (t : Told) (v : Seen). record { answer = t; shown = v }) x.says (ap accepting.shows x.leaves ∙ shows-held b can n slotted l a e h q long)) r.says;
        state = r.state;
        decoder = r.decoder;
        long = r.long;
      }))
  mixed (idle ∷ cs) g l a buffer lb e h q long =
      let r = mixed cs g l a buffer lb e h q long in
      rw (idle_zero accepting Fine fit keeps answers buffer e (fine e q long) (bytes_of b cs ++ p))
      (record { says = r.says; state = r.state; decoder = r.decoder; long = r.long })
