-- `messages::put_refusal` meets its contract. Assumes nothing.
use Rattle.messages.proofs.Messages.{refusal-put}
use Rattle.messages.proofs.put_refusal.Goals as goal

pub returns : goal.returns
returns c = search refusal-put
