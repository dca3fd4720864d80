-- A caller who writes to the table's bytes between calls hears and leaves what one does who leaves it alone, but for those bytes.
-- Assumes nothing.
use mathlib.Core.Path.{◌≡◌, refl}
use mathlib.Core.List.{List}
use Prim.Native.Nat.{ℕ}
use lib.ListN.{length}
use Rattle.wire.specs.Loop.{Side, drive}
use Rattle.wire.specs.Receive.{End, accepting}
use Rattle.wire.proofs.Again.{AlikeTo}
use Rattle.wire.proofs.Hands.{Likewise, drive-same}
use Rattle.wire.proofs.Accepting.{Like, bads, says, goes, shows}

abbrev pub alone : ℕ → End → End
alone k e = e

module _ (handed : ℕ → List ℕ → List ℕ) (same : (k : ℕ) (t : List ℕ) → length (handed k t) ≡ length t) where
  abbrev pub writing : ℕ → End → End
  writing k e = record { receiver = e.receiver; table = handed k e.table }

  pub hands : (k : ℕ) (s t : End) → Like s t → Like (writing k s) (alone k t)
  hands k s t l = record { receivers = l.receivers; lengths = rw (same k s.table) l.lengths }

  pub unseen : (w : Side End) (pieces : List (List ℕ))
      → AlikeTo (Likewise accepting Like bads says goes shows writing alone hands) (drive accepting writing 0 w pieces) (drive accepting alone 0 w pieces)
  unseen w pieces =
      drive-same accepting Like bads says goes shows writing alone hands pieces 0 w w
      (record { decoders = refl; buffers = refl; states = record { receivers = refl; lengths = refl } })
