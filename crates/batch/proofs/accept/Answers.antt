-- `batch::accept` meets its contract. Assumes nothing.
use Rattle.batch.proofs.Accepting.{accepts, refuses}
use Rattle.batch.proofs.accept.Goals as goal

pub returns-in-Ok : goal.returns-in-Ok
returns-in-Ok c =
    let a = c.args in
    let w = c.whole in
    let z = accepts a.receiver a.table.now a.frame.now w.result w.new.receiver w.new.table (w.ensures.answer, (w.ensures.state, w.ensures.memory)) c.in-Ok.is c.standing.result c.standing.ensures in
    record { answer = z.0; state = z.1.0; memory = z.1.1 }

pub returns-in-Err : goal.returns-in-Err
returns-in-Err c =
    let a = c.args in
    let w = c.whole in
    let z = refuses a.receiver a.table.now a.frame.now w.result w.new.receiver w.new.table (w.ensures.answer, (w.ensures.state, w.ensures.memory)) c.in-Err.refusal c.in-Err.is in
    record { answer = z.0; state = z.1.0; memory = z.1.1 }
