-- `messages::put_faulty` meets its contract. Assumes nothing.
use Rattle.messages.proofs.Messages.{faulty-put}
use Rattle.messages.proofs.put_faulty.Goals as goal

pub returns : goal.returns
returns c = search faulty-put
