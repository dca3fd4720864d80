-- `enc::stream::Encoder::push` meets its contract. Assumes nothing.
use mathlib.Core.Path.{◌∙◌}
use native.Mathlib.Omega.{arith}
use Rattle.enc.proofs.Steps.{in_group}
use Rattle.enc.proofs.Pieces.{place-finished}
use Rattle.enc.proofs.Calls.{push-taken, push-refused, push-accepted}
use Rattle.enc.proofs.stream.Encoder.push.Goals as goal

pub returns-in-Err : goal.returns-in-Err
returns-in-Err c =
    let both = push-refused _ _ c.args.dest.now _ c.in-Err.ensures in
    record { answer = c.in-Err.ensures; next = both.0; memory = both.1 }

pub put_all-requires : goal.put_all-requires
put_all-requires c =
    let t = push-taken _ _ _ c.in_default.ensures in
    ((in_group _).none t.good.group, omega (arith, t.good.fits, place-finished c.args.self), t.few)

pub returns : goal.returns
returns c =
    let both = push-accepted _ _ c.args.dest.now c.in_default.ensures in
    record { answer = c.in_default.ensures; next = c.put_all.ensures.next ∙ both.0; memory = c.put_all.ensures.memory ∙ both.1 }
