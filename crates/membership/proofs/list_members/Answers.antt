-- `membership::list_members` meets its contract. Assumes nothing.
use Rattle.walk.proofs.Entered.{listed-none, listed-all}
use borrow.Author.Rules.{rules}
use Rattle.membership.proofs.list_members.Goals as goal

pub loop-j-init : goal.loop-j-init
loop-j-init c = (search rules, search listed-none)

pub enter_record-requires : goal.enter_record-requires
enter_record-requires c = record { formed = search rules; j_bound = (search rules, search rules, search rules) }

pub returns : goal.returns
returns c = search listed-all
