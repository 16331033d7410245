-- `reads::members_formed` meets its contract. Assumes nothing.
use Rattle.reads.specs.Reads.{members_result}
use Rattle.reads.proofs.Told.{hyperedge-within, members-told}
use borrow.Author.Rules.{rules}
use Rattle.layout.proofs.Answers.{asked-missing, taken}
use Rattle.reads.proofs.members_formed.Goals as goal

pub list_members-requires : goal.list_members-requires
list_members-requires c = record { formed = search rules; j_bound = search (hyperedge-within, taken _ _ _ c.ok_or.ensures.value _ c.in_ok-j.was) }

pub returns-in_err-j : goal.returns-in_err-j
unfolding members_result
returns-in_err-j c = search (asked-missing, c.in_err-j.was)

pub returns : goal.returns
returns c = search (members-told, taken _ _ _ c.ok_or.ensures.value _ c.in_ok-j.was)
