-- `enc::fast::block` meets its contract. Assumes nothing.
use mathlib.Core.Path.{refl, sym, ◌∙◌}
use Prim.Native.Nat.{◌+◌, ◌≤◌}
use native.Mathlib.Omega.{arith}
use lib.ListN.{length}
use Rattle.blocks.proofs.Blocks.{taken_is_clear, taken_is_zeros}
use Rattle.enc.specs.Fast.{Open, Kept}
use Rattle.enc.proofs.Opens.{room, kept_on, inside}
use Rattle.enc.proofs.Turns.{block-open, block-kept, block_clear, block-zeros}
use Rattle.enc.proofs.fast.block.Goals as goal

-- the sixteen bytes are copied

pub returns-in-Clear : goal.returns-in-Clear
returns-in-Clear c =
    let a = c.args in
    let room_here : a.s.at + 16 ≤ length a.dest.now = omega (arith, room a.src.now a.s.from a.s.place a.s.at 0 a.dest.now c.requires.0, c.requires.0.fits, c.requires.1) in
    let open_here : Open c.args.src.now c.args.s.from c.args.s.place c.args.s.at 16 c.take16.new.dest = block-open _ _ _ _ _ c.requires.0 c.requires.1 _ c.take16.ensures.memory in
    record {
      next = (block_clear _ _ _ _ _ open_here c.requires.2 (taken_is_clear _ _ c.requires.1 _ _ room_here (sym c.take16.ensures.answer ∙ c.in-Clear.is)), c.requires.2);
      sixteen = refl;
      kept = block-kept _ _ _ _ _ c.requires.0 c.requires.1 _ c.take16.ensures.memory;
    }

-- they are zeros, and ones stand for them
pub overflow_sub-dest : goal.overflow_sub-dest
overflow_sub-dest c = omega (arith, inside (block-open _ _ _ _ _ c.requires.0 c.requires.1 _ c.take16.ensures.memory))

pub bounds-dest-s : goal.bounds-dest-s
bounds-dest-s c = omega (arith, inside (block-open _ _ _ _ _ c.requires.0 c.requires.1 _ c.take16.ensures.memory))

pub returns-in-Zeros : goal.returns-in-Zeros
returns-in-Zeros c =
    let a = c.args in
    let room_here : a.s.at + 16 ≤ length a.dest.now = omega (arith, room a.src.now a.s.from a.s.place a.s.at 0 a.dest.now c.requires.0, c.requires.0.fits, c.requires.1) in
    let open_here : Open c.args.src.now c.args.s.from c.args.s.place c.args.s.at 16 c.take16.new.dest = block-open _ _ _ _ _ c.requires.0 c.requires.1 _ c.take16.ensures.memory in
    let zeros_here : Open a.src.now (a.s.from + 16) (a.s.at + 15) (a.s.at + 16) 0 c.fill16.new.dest × Kept a.src.now c.take16.new.dest c.fill16.new.dest =
    block-zeros _ _ _ _ _ open_here c.requires.2
    (taken_is_zeros _ _ c.requires.1 _ _ room_here (sym c.take16.ensures.answer ∙ c.in-Zeros.is)) _ c.fill16.ensures in
    record { next = (zeros_here.0, omega arith); sixteen = refl; kept = kept_on (block-kept _ _ _ _ _ c.requires.0 c.requires.1 _ c.take16.ensures.memory) zeros_here.1 }

pub marks-requires : goal.marks-requires
marks-requires c = (block-open _ _ _ _ _ c.requires.0 c.requires.1 _ c.take16.ensures.memory, c.requires.2)

pub returns-in_default : goal.returns-in_default
returns-in_default c = record { next = c.marks.ensures.next; sixteen = c.marks.ensures.sixteen; kept = kept_on (block-kept _ _ _ _ _ c.requires.0 c.requires.1 _ c.take16.ensures.memory) c.marks.ensures.kept }
