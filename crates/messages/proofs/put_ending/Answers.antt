-- `messages::put_ending` meets its contract. Assumes nothing.
use Rattle.messages.proofs.Messages.{ending-change, ending-plain}
use Rattle.messages.proofs.put_ending.Goals as goal

pub returns-then-change : goal.returns-then-change
returns-then-change c = search ending-change

pub returns : goal.returns
returns c = search ending-plain
