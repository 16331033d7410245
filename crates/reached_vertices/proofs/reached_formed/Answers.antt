-- `reached_vertices::reached_formed` meets its contract. Assumes nothing.
use Rattle.reached_vertices.specs.Reached.{reached_result}
use Rattle.reached_vertices.proofs.Seen.{start-within, reached-told}
use borrow.Author.Rules.{rules}
use Rattle.layout.proofs.Answers.{asked-missing, taken}
use Rattle.reached_vertices.proofs.reached_formed.Goals as goal

pub list_reached-requires : goal.list_reached-requires
list_reached-requires c = record { formed = search rules; i_bound = search (start-within, taken _ _ _ c.ok_or.ensures.value _ c.in_ok-i.was) }

pub returns-in_err-i : goal.returns-in_err-i
unfolding reached_result
returns-in_err-i c = search (asked-missing, c.in_err-i.was)

pub returns : goal.returns
returns c = search (reached-told, taken _ _ _ c.ok_or.ensures.value _ c.in_ok-i.was)
