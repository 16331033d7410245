-- `desk_states::follow` meets its contract. Assumes nothing.
use Rattle.desk_states.proofs.Turns.{moved_none, moved-again, moved-done}
use borrow.Author.Rules.{rules}
use Rattle.desk_states.proofs.follow.Goals as goal

pub loop-i-init : goal.loop-i-init
loop-i-init c = (search rules, search moved_none)

pub loop-i-preserved : goal.loop-i-preserved
loop-i-preserved c = (search rules, search moved-again)

pub returns : goal.returns
returns c = search moved-done
