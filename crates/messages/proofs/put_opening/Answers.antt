-- `messages::put_opening` meets its contract. Assumes nothing.
use Rattle.messages.proofs.Messages.{opening-single, opening-batch}
use Rattle.messages.proofs.put_opening.Goals as goal

pub returns-then-single : goal.returns-then-single
returns-then-single c = search opening-single

pub returns : goal.returns
returns c = search opening-batch
