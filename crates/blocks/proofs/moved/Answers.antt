-- `blocks::moved` meets its contract. Assumes nothing.
use mathlib.Core.Path.{sym, ◌∙◌}
use Prim.Native.Nat.{◌+◌}
use borrow.Author.Tests.{leb-true}
use lib.ListN.{length}
use Rattle.blocks.proofs.Blocks.{block_none, copied-dest, copied-src, moved-memory}
use Rattle.blocks.proofs.moved.Goals as goal

pub returns-in_err-block-clause-memory : goal.returns-in_err-block-clause-memory
returns-in_err-block-clause-memory c =
    let a = c.args in
    copied-src a.dest.now a.at a.src.now a.from (block_none a.src.now a.from (sym c.in_err-block.was ∙ c.read16.ensures))

pub returns-then-not-stand-clause-memory : goal.returns-then-not-stand-clause-memory
returns-then-not-stand-clause-memory c =
    let a = c.args in
    copied-dest a.dest.now a.at a.src.now a.from (sym c.stand.ensures ∙ c.if-not-stand.true)

-- the destination has room
pub write16-requires : goal.write16-requires
write16-requires c = leb-true (c.args.at + 16) (length c.args.dest.now) (sym c.stand.ensures ∙ c.if-not-stand.false)

pub returns-clause-memory : goal.returns-clause-memory
returns-clause-memory c =
    let a = c.args in
    moved-memory a.dest.now a.at a.src.now a.from (leb-true (a.at + 16) (length a.dest.now) (sym c.stand.ensures ∙ c.if-not-stand.false)) c.in_ok-block.block _
    (sym c.in_ok-block.was ∙ c.read16.ensures) c.write16.ensures
