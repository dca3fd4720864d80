-- `batch::Receiver::close` meets its contract. Assumes nothing.
use Rattle.batch.proofs.Ways.{close-room, close-unlike, close_repeat, close-marked, close-new}
use Rattle.batch.proofs.Receiver.close.Goals as goal

pub returns-then-close-self : goal.returns-then-close-self
returns-then-close-self c = search (close-room)

pub returns-then-count-count_below : goal.returns-then-count-count_below
returns-then-count-count_below c = search (close-marked)

pub returns : goal.returns
returns c = search (close-new)

pub returns-then-ne : goal.returns-then-ne
returns-then-ne c = search (close-unlike)

pub returns-in-Some : goal.returns-in-Some
returns-in-Some c = search (close_repeat)
