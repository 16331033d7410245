-- `membership::enter_record` meets its contract. Assumes nothing.
use Rattle.walk.proofs.Entered.{entering-none, listed_in_lem, listed_at, entering-all}
use borrow.Author.Rules.{rules}
use Rattle.membership.proofs.enter_record.Goals as goal

pub loop-p-init : goal.loop-p-init
loop-p-init c = search entering-none

pub enter-requires : goal.enter-requires
enter-requires c = record { formed = search rules; j_bound = (search rules, search listed_in_lem, search listed_at, search rules); entering = search rules }

pub returns : goal.returns
returns c = search entering-all
