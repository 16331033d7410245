-- `messages::could_change` meets its contract. Assumes nothing.
use Rattle.messages.proofs.Messages.{could-single, could-batch}
use Rattle.messages.proofs.could_change.Goals as goal

pub returns-then-single : goal.returns-then-single
returns-then-single c = search could-single

pub returns : goal.returns
returns c = search could-batch
