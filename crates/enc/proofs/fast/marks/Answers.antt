-- `enc::fast::marks` meets its contract. Assumes nothing.
use native.Mathlib.Omega.{arith}
use Rattle.enc.proofs.Opens.{inside, kept_on}
use Rattle.enc.proofs.Turns.{mark-turn}
use Rattle.enc.proofs.fast.marks.Goals as goal

pub mark-place-requires : goal.mark-place-requires
mark-place-requires c =
    let v = c.loop-k.invariant in
    ((omega (arith, inside v.1), omega arith), omega (arith, inside v.1, v.1.within))

pub loop-k-preserved : goal.loop-k-preserved
loop-k-preserved c =
    let m = c.mark-place in
    let t =
    mark-turn _ c.args.s.from _ c.args.s.at _ _ (omega arith) c.loop-k.invariant.0 c.loop-k.invariant.1
    m.result m.new.dest m.ensures.place m.ensures.memory in
    (t.0, t.1, kept_on c.loop-k.invariant.2 t.2)
