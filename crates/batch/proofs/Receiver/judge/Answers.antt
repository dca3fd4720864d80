-- `batch::Receiver::judge` meets its contract. Assumes nothing.
use Rattle.batch.proofs.Ways.{judge-bad, judge-ahead, judge-stale, judge-ours}
use Rattle.batch.proofs.Receiver.judge.Goals as goal

pub returns-in_default : goal.returns-in_default
returns-in_default c = search (judge-bad)

pub returns-in-Ours : goal.returns-in-Ours
returns-in-Ours c = search (judge-ours)

pub returns-in-Ahead : goal.returns-in-Ahead
returns-in-Ahead c = search (judge-ahead)

pub returns-in-Stale : goal.returns-in-Stale
returns-in-Stale c = search (judge-stale)
