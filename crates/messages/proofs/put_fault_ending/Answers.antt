-- `messages::put_fault_ending` meets its contract. Assumes nothing.
use Rattle.messages.proofs.Messages.{fault-crlf, fault-plain}
use Rattle.messages.proofs.put_fault_ending.Goals as goal

pub returns-then-crlf : goal.returns-then-crlf
returns-then-crlf c = search fault-crlf

pub returns : goal.returns
returns c = search fault-plain
