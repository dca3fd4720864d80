-- Both states of a receiving side as numbers, and back. Assumes nothing.
use Rattle.std.specs.Prelude.{Bool, true, false, not, ◌&&◌, Option, Some, None, List, [], ◌∷◌, ◌++◌, ℕ, ◌%◌, eqb, length, get_or, take, drop, if◌then◌else◌}
use Rattle.dec.specs.declared.state.DecoderState.{DecoderState}
use Rattle.dec.specs.declared.state.DecoderState.TheVariants.{Idle, Grab, GrabChain}
use Rattle.batch.specs.declared.Close.{Close}
use Rattle.wire.specs.declared.Wire.{Wire}

-- ---- A state's numbers: ten, then the words of the marks

-- A yes or no as a number.
abbrev pub bit : Bool → ℕ
bit false = 0
bit true = 1

-- Which state, and the bytes left of its group.
abbrev pub state_numbers : DecoderState → List ℕ
state_numbers Idle = 0 ∷ 0 ∷ []
state_numbers (Grab left) = 1 ∷ left ∷ []
state_numbers (GrabChain left) = 2 ∷ left ∷ []

-- Whether it is taken, its count and its total.
abbrev pub close_numbers : Option Close → List ℕ
close_numbers None = 0 ∷ 0 ∷ 0 ∷ []
close_numbers (Some close) = 1 ∷ close.count ∷ close.total ∷ []

-- The ten: the decoder, then the receiver without its marks.
unfoldable pub head_of : Wire → List ℕ
head_of w =
    w.decoder.place ∷ bit w.decoder.skip ∷ state_numbers w.decoder.state
    ++ w.receiver.total ∷ close_numbers w.receiver.close ++ w.receiver.slots ∷ w.receiver.batch ∷ []

-- All of them.
unfoldable pub numbers_of : Wire → List ℕ
numbers_of w = head_of w ++ w.receiver.marks

-- ---- What numbers are read as; a number that is too large for its field is cut to it

-- The decoder's state.
abbrev pub state_in : (kind left : ℕ) → DecoderState
state_in kind left = if eqb kind 0 then Idle else if eqb kind 1 then Grab (left % 256) else GrabChain (left % 256)

-- The receiver's close.
abbrev pub close_in : (taken count total : ℕ) → Option Close
close_in taken count total = if eqb taken 0 then None else Some (record { count = count; total = total % 4_294_967_296 })

-- Both states.
unfoldable pub wire_in : List ℕ → Wire
wire_in ns = record {
  decoder = record { place = get_or ns 0 0; skip = not (eqb (get_or ns 1 0) 0); state = state_in (get_or ns 2 0) (get_or ns 3 0) };
  receiver = record {
    marks = drop 10 ns;
    total = get_or ns 4 0 % 4_294_967_296;
    close = close_in (get_or ns 5 0) (get_or ns 6 0) (get_or ns 7 0);
    slots = get_or ns 8 0;
    batch = get_or ns 9 0 % 65_536;
  };
}

-- The same numbers in the same order.
abbrev pub same : (s t : List ℕ) → Bool
same [] [] = true
same [] (y ∷ t) = false
same (x ∷ s) [] = false
same (x ∷ s) (y ∷ t) = eqb x y && same s t

-- Numbers name the states that they are read as if they are those states' numbers.
unfoldable pub names : List ℕ → Bool
names ns = eqb (length ns) 74 && same (take 10 ns) (head_of (wire_in ns))

-- ---- The calls

-- The states that the numbers name, if they name any.
unfoldable pub read_of : List ℕ → Option Wire
read_of ns = if names ns then Some (wire_in ns) else None

-- The states' numbers, in a list of as many; a list of another length stays.
unfoldable pub written_to : List ℕ → Wire → List ℕ
written_to ns w = if eqb (length ns) 74 then numbers_of w else ns

-- What is read back from it: the very states, where the list has as many numbers as they.
unfoldable pub read_back : (ns : List ℕ) → Wire → Option Wire
read_back ns w = if eqb (length ns) 74 then Some w else None
