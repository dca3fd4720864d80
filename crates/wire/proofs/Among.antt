-- Every delivery with anything else among its frames. Demand 3's own is the one without. Assumes nothing.
use mathlib.Core.Path.{◌≡◌, refl, sym, ap, ◌∙◌}
use mathlib.Core.Bool.{true}
use mathlib.Core.List.{List, [], ◌∷◌, ◌++◌}
use Prim.Native.Nat.{ℕ}
use native.Mathlib.Omega.{arith}
use lib.ListN.{length}
use Rattle.cobs.specs.Code.{encode}
use Rattle.dec.specs.Stream.{new, is_more, push_outcome}
use Rattle.batch.proofs.Good.{open-good}
use Rattle.wire.specs.Again.{Said, Run}
use Rattle.wire.specs.Loop.{Side, drive, framed}
use Rattle.wire.specs.Receive.{End, Seen, accepting}
use Rattle.wire.specs.Batch.{Batch, Item, message, messages, Frames, expected, expected_all}
use Rattle.wire.specs.Demand3.{Delivery, Premises, started, hand, run}
use Rattle.wire.specs.Afterwards.{LeftAlone}
use Rattle.wire.specs.Among.{Came, ours, other, idle, bytes_of, ours_in, AllCame, Among, run_among, expected_among, to_ours, DeliveredAmong}
use Rattle.wire.proofs.Again.{AlikeTo}
use Rattle.wire.proofs.Hands.{Likewise, drive-same}
use Rattle.wire.proofs.Table.{alone, hands, unseen}
use Rattle.wire.proofs.Loop.{by_bytes, drive-bytes}
use Rattle.wire.proofs.Frames.{front-more, waiting, waiting-good}
use Rattle.wire.proofs.Arrived.{open-held}
use Rattle.wire.proofs.Receiving.{message-long, after_all}
use Rattle.wire.proofs.Accepting.{Fine, fit, keeps, answers, Like, bads, says, goes, shows}
use Rattle.wire.proofs.Mixed.{Left, left-alike, mixed}

-- the receiver and its table after a delivery's frames, one after another
abbrev pub end : Delivery → End
end d = after_all (started d).state (messages d.batch d.frames)

module _ (d : Delivery) (p : Premises d) where
  pub open-fine : Fine (started d).state
  unfolding Fine
  open-fine = open-good d.batch.number (length d.table)

  pub tables : (k : ℕ) (t : List ℕ) → length (d.handed k t) ≡ length t
  tables k t = rw (p.same k t)

  module _ (a : Among d) where
    -- the front of one more says nothing
    pub begun_more : is_more (push_outcome new (length d.buffer) a.begun) ≡ true
    begun_more =
        let q = a.begins in
        front-more (message a.last q.frame) a.begun q.later (length d.buffer)
        (omega (arith, message-long a.last a.sendable q.frame q.framing.ours, q.framing.most, p.room))
        q.front

    pub heard-alike : AlikeTo (Likewise accepting Like bads says goes shows (hand d) alone (hands d.handed tables)) (run_among d a) (drive accepting alone 0 (started d) a.pieces)
    heard-alike = unseen d.handed tables (started d) a.pieces

    -- what is said to what came, and what is left of it
    abbrev pub LeftBy : Run (Side End) Seen → Type 0
    LeftBy r =
        Left d.batch p.sendable (length d.table) p.slots (length d.buffer) p.room a.begun begun_more [] a.came (started d).state r

    -- from a new decoder over a buffer as long, with the receiver as it was opened
    pub from-new : (buffer : List ℕ) → length buffer ≡ length d.buffer
        → LeftBy (by_bytes accepting Fine fit keeps (waiting accepting Fine fit keeps answers buffer (started d).state) (bytes_of d.batch a.came ++ a.begun))
    from-new buffer l =
        let h = open-held d.batch p.sendable (length d.table) p.slots in
        let q = open-good d.batch.number (length d.table) in
        mixed d.batch p.sendable (length d.table) p.slots (length d.buffer) p.room a.begun begun_more a.came a.all [] tt
        buffer l (started d).state h q refl

    -- however it is cut, by a caller who leaves the table alone
    pub left : LeftBy (drive accepting alone 0 (started d) a.pieces)
    left =
        left-alike d.batch p.sendable (length d.table) p.slots (length d.buffer) p.room a.begun begun_more [] a.came (started d).state
        (drive-bytes accepting Fine fit keeps a.pieces 0 (started d) (waiting-good accepting Fine fit keeps answers d.buffer (started d).state open-fine))
        (rw a.cut (from-new d.buffer refl))

    pub said-among : (run_among d a).said ≡ expected_among d.batch [] a.came
    said-among = heard-alike.said ∙ left.says

    -- the receiver, and the table of a caller who leaves it alone: as if ours alone had come
    alone-left : (drive accepting alone 0 (started d) a.pieces).side.state ≡ end d
    alone-left = left.state ∙ ap (λ (fs : List (List Item)). after_all (started d).state (messages d.batch fs)) a.frames

    receiver-left : (run_among d a).side.state.receiver ≡ (end d).receiver
    receiver-left = heard-alike.sides.states.receivers ∙ ap (λ (e : End). e.receiver) alone-left

    end-left : LeftAlone d → (run_among d a).side.state ≡ end d
    end-left untouched =
        (drive-same accepting ◌≡◌ (λ s t e. ap accepting.is_bad e) (λ s t e f. ap (λ (x : End). accepting.says x f) e)
        (λ s t e f. ap (λ (x : End). accepting.after x f) e) (λ s t e. ap accepting.shows e) (hand d) alone handed-same a.pieces 0 (started d) (started d)
        (record { decoders = refl; buffers = refl; states = refl })).sides.states
        ∙ alone-left
      where
        handed-same : (k : ℕ) (s t : End) → s ≡ t → hand d k s ≡ alone k t
        handed-same k s t e = ap (λ (x : List ℕ). record { receiver = s.receiver; table = x }) (untouched k s.table) ∙ e

-- ---- nothing else came

abbrev all_ours : List (List Item) → List Came
all_ours [] = []
all_ours (f ∷ fs) = ours f ∷ all_ours fs

ours_in-all_ours : (fs : List (List Item)) → ours_in (all_ours fs) ≡ fs
ours_in-all_ours [] = refl
ours_in-all_ours (f ∷ fs) = ap (λ (t : List (List Item)). f ∷ t) (ours_in-all_ours fs)

module _ (b : Batch) where
  all-ours : (fs : List (List Item)) → Frames b fs → AllCame b (all_ours fs)
  all-ours [] g = tt
  all-ours (f ∷ fs) g = (g.0, all-ours fs g.1)

  ours-bytes : (fs : List (List Item)) → framed (messages b fs) ≡ bytes_of b (all_ours fs)
  ours-bytes [] = refl
  ours-bytes (f ∷ fs) = ap (λ (t : List ℕ). encode (message b f) ++ 0 ∷ t) (ours-bytes fs)

  expected-ours : (l : List Item) (fs : List (List Item)) → expected_among b l (all_ours fs) ≡ expected_all b l fs
  expected-ours l [] = refl
  expected-ours l (f ∷ fs) = ap (λ (t : List (Said Seen)). expected b (l ++ f) ∷ t) (expected-ours (l ++ f) fs)

  -- the answers to ours are those that are due where nothing else came
  to-ours : (l : List Item) (cs : List Came) → to_ours cs (expected_among b l cs) ≡ expected_all b l (ours_in cs)
  to-ours l [] = refl
  to-ours l (ours f ∷ cs) = ap (λ (t : List (Said Seen)). expected b (l ++ f) ∷ t) (to-ours (l ++ f) cs)
  to-ours l (other o f ∷ cs) = to-ours l cs
  to-ours l (idle ∷ cs) = to-ours l cs

module _ (d : Delivery) (p : Premises d) where
  abbrev itself : Among d
  itself = record {
    came = all_ours d.frames;
    all = all-ours d.batch d.frames p.framing;
    frames = ours_in-all_ours d.frames;
    last = d.batch;
    sendable = p.sendable;
    begun = d.begun;
    begins = p.begins;
    pieces = d.pieces;
    cut = p.cut ∙ ap (λ (s : List ℕ). s ++ d.begun) (ours-bytes d.batch d.frames);
  }

  pub said : (run d).said ≡ expected_all d.batch [] d.frames
  said = said-among d p itself ∙ expected-ours d.batch [] d.frames

  -- what is left of the receiver, and of the table of a caller who leaves it alone
  pub receiver-after : (run d).side.state.receiver ≡ (end d).receiver
  receiver-after = receiver-left d p itself

  pub end_after : LeftAlone d → (run d).side.state ≡ end d
  end_after = end-left d p itself

  pub delivered-among : (a : Among d) → DeliveredAmong d a
  delivered-among a = record {
    answers = said-among d p a;
    ours =
        ap (to_ours a.came) (said-among d p a) ∙ to-ours d.batch [] a.came ∙ ap (expected_all d.batch []) a.frames ∙ sym said;
    receiver = receiver-left d p a ∙ sym receiver-after;
    table = λ untouched. ap (λ (e : End). e.table) (end-left d p a untouched ∙ sym (end_after untouched));
  }
