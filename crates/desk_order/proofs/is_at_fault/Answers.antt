-- `desk_order::is_at_fault` meets its contract. Assumes nothing.
use Rattle.desk_order.proofs.Faults.{not_live, place-within, entry-judged}
use borrow.Author.Rules.{rules}
use Rattle.desk_order.proofs.is_at_fault.Goals as goal

pub place-requires : goal.place-requires
place-requires c = (search place-within, search rules)

pub returns-in_default : goal.returns-in_default
returns-in_default c = search not_live

pub returns : goal.returns
returns c = search entry-judged
