-- `remove_hyperedge::remove_formed` meets its contract. Assumes nothing.
use Rattle.edits.proofs.Dropped.{hyperedge-below, hyperedge-done}
use borrow.Author.Rules.{rules}
use Rattle.layout.proofs.Answers.{asked-missing, taken}
use Rattle.edits.specs.Results.{remove_hyperedge_result}
use Rattle.remove_hyperedge.proofs.remove_formed.Goals as goal

pub drop_hyperedge-requires : goal.drop_hyperedge-requires
drop_hyperedge-requires c = (search rules, (search (hyperedge-below, taken _ _ _ c.ok_or.ensures.value _ c.in_ok-j.was), search rules))

pub returns-in_err-j : goal.returns-in_err-j
unfolding remove_hyperedge_result
returns-in_err-j c = search (asked-missing, c.in_err-j.was)

pub returns : goal.returns
returns c = search (hyperedge-done, taken _ _ _ c.ok_or.ensures.value _ c.in_ok-j.was)
