-- `dec::fast::codes` meets its contract. Assumes nothing.
use mathlib.Core.Path.{sym, ◌∙◌}
use Rattle.blocks.proofs.Blocks.{all-says, filled-fits}
use Rattle.dec.proofs.Sixteen.{ones-patched}
use Rattle.dec.proofs.fast.codes.Goals as goal

pub returns-then-all16 : goal.returns-then-all16
returns-then-all16 c =
    let a = c.args in
    let q = c.requires in
    let ones = (all-says 1 a.piece.now a.i (sym c.all16.ensures ∙ c.if-all16.true)).1 in
    let written = c.fill16.ensures ∙ filled-fits a.dest.now a.place 0 q.i_in_bounds.1 in
    ones-patched _ _ _ _ _ q.i_in_bounds.0 q.i_in_bounds.1 c.if-opened-eq0.true q.le_left ones _ written
