-- 01's sentences about the receiver's calls, as statements. `proofs/Sentences.antt` proves each. Assumes nothing.
use Rattle.std.specs.Prelude.{◌≡◌, false, List, ℕ, ◌≤◌, length}
use Rattle.batch.specs.State.{opened, is_bad}
use Rattle.batch.specs.Frame.{accept_told, accept_next, accept_table}
use Rattle.batch.specs.declared.Receiver.{Receiver}

-- No BadState, with a table of n bytes. The marks, an array of 64 words, are a list here.
pub record NotBad (r : Receiver) (n : ℕ) : Type 0 where
  pub state : is_bad r n ≡ false
  pub words : length r.marks ≡ 64

-- "BadState: table shorter than the slots, slots over 4,096, a mark at or above the slot count or a taken close's count, a close
-- count over the slots, total over 1,000,000 times the marked." No call leads there.
pub record NeverBad : Type 0 where
  -- opening gives none
  pub opens : (batch : ℕ) (table : List ℕ) → NotBad (opened batch (length table)) (length table)
  -- from a state that is not bad no frame leads to one, taken or refused
  pub accepts : (r : Receiver) (table frame : List ℕ) → NotBad r (length table) → NotBad (accept_next r table frame) (length (accept_table r table frame))
  -- the table stays as long as it is
  pub long : (r : Receiver) (table frame : List ℕ) → length (accept_table r table frame) ≡ length table

-- "Refusals 1 and 4 to 13 change neither state nor buffer": of `accept`, whose answers from 15 on say how the batch stands.
pub record RefusedUnchanged : Type 0 where
  pub state : (r : Receiver) (table frame : List ℕ) → (accept_told r table frame).number ≤ 13 → accept_next r table frame ≡ r
  pub table : (r : Receiver) (table frame : List ℕ) → (accept_told r table frame).number ≤ 13 → accept_table r table frame ≡ table
