-- `walking::step_from` meets its contract. Assumes nothing.
use Rattle.walk.proofs.Walked.{stands, move-none, move-one}
use borrow.Author.Rules.{rules}
use Rattle.walking.proofs.step_from.Goals as goal

pub lister_count-n-requires : goal.lister_count-n-requires
lister_count-n-requires c = record { formed = search rules; i_bound = (search stands, search rules) }

pub returns-then-n-eq0 : goal.returns-then-n-eq0
returns-then-n-eq0 c = search move-none

pub drawn_hyperedge-j-requires : goal.drawn_hyperedge-j-requires
drawn_hyperedge-j-requires c = record { formed = search rules; i_bound = (search stands, search rules, search rules, search rules) }

pub to_one_of-requires : goal.to_one_of-requires
to_one_of-requires c = record { formed = search rules; j_bound = (search rules, search rules) }

pub returns : goal.returns
returns c = search move-one
