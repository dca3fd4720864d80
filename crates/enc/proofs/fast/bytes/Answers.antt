-- `enc::fast::bytes` meets its contract. Assumes nothing.
use Rattle.std.proofs.Common.{refl, arith}
use Rattle.enc.proofs.Opens.{inside, kept_on, same-open}
use Rattle.enc.proofs.Turns.{byte-open, byte-kept}
use Rattle.enc.proofs.fast.bytes.Goals as goal

pub bounds-dest-s : goal.bounds-dest-s
bounds-dest-s c = omega (arith, inside c.loop-k.invariant.0)

pub loop-k-preserved : goal.loop-k-preserved
loop-k-preserved c =
    let o = c.loop-k.invariant.0 in (
      same-open (byte-open _ _ _ _ _ o (omega arith) c.if-b-eq0.false (omega (arith, c.requires.code, c.requires.few))) (omega arith) refl (omega arith) refl,
      kept_on c.loop-k.invariant.1 (byte-kept _ _ _ _ _ o (omega arith)),
    )
