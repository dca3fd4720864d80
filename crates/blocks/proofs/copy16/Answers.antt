-- `blocks::copy16` meets its contract. Assumes nothing.
use mathlib.Core.Path.{sym, ◌∙◌}
use Prim.Native.Nat.{◌+◌}
use borrow.Author.Tests.{leb-true}
use lib.ListN.{length}
use Rattle.blocks.proofs.Blocks.{block_none, copied-dest, copied-src, moved-memory}
use Rattle.blocks.proofs.copy16.Goals as goal

pub returns-then-not-stand : goal.returns-then-not-stand
returns-then-not-stand c =
    let a = c.args in
    copied-dest a.dest.now a.at a.src.now a.from (sym c.stand.ensures ∙ c.if-not-stand.true)

pub returns-in_default : goal.returns-in_default
returns-in_default c =
    let a = c.args in
    copied-src a.dest.now a.at a.src.now a.from (block_none a.src.now a.from (sym c.in_default.is ∙ c.read16.ensures))

-- the destination has room
pub write16-requires : goal.write16-requires
write16-requires c = leb-true (c.args.at + 16) (length c.args.dest.now) (sym c.stand.ensures ∙ c.if-not-stand.false)

pub returns : goal.returns
returns c =
    let a = c.args in
    moved-memory a.dest.now a.at a.src.now a.from (leb-true (a.at + 16) (length a.dest.now) (sym c.stand.ensures ∙ c.if-not-stand.false)) c.in-Some.block _
    (sym c.in-Some.is ∙ c.read16.ensures) c.write16.ensures
