-- `dec::fast::by_sixteen` meets its contract: block by block. Assumes nothing.
use mathlib.Core.Path.{sym, ◌∙◌}
use native.Mathlib.Omega.{arith}
use Rattle.blocks.proofs.Blocks.{clear_says}
use Rattle.dec.proofs.Sixteen.{block-stands, block-turn}
use Rattle.dec.proofs.fast.by_sixteen.Goals as goal

pub codes-group-requires-clause-i_in_bounds : goal.codes-group-requires-clause-i_in_bounds
codes-group-requires-clause-i_in_bounds c =
    block-stands _ _ _ _ _ _ _ _ _ c.loop-dest.invariant c.loop-dest-test.true (sym c.clear16.ensures ∙ c.if-not-clear16.false) _ c.copy16.ensures

pub codes-group-requires-clause-clear : goal.codes-group-requires-clause-clear
codes-group-requires-clause-clear c = (clear_says _ _ (sym c.clear16.ensures ∙ c.if-not-clear16.false)).1

pub loop-dest-smaller : goal.loop-dest-smaller
loop-dest-smaller c = let stands = (clear_says _ _ (sym c.clear16.ensures ∙ c.if-not-clear16.false)).0 in omega (arith, stands)

pub loop-dest-preserved : goal.loop-dest-preserved
loop-dest-preserved c =
    block-turn _ _ _ _ _ _ _ _ _ c.loop-dest.invariant c.loop-dest-test.true (sym c.clear16.ensures ∙ c.if-not-clear16.false) _ c.copy16.ensures _ _ c.codes-group.ensures
