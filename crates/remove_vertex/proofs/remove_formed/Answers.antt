-- `remove_vertex::remove_formed` meets its contract. Assumes nothing.
use Rattle.edits.proofs.Dropped.{vertex-below, vertex-done}
use borrow.Author.Rules.{rules}
use Rattle.layout.proofs.Answers.{asked-missing, taken}
use Rattle.edits.specs.Results.{remove_vertex_result}
use Rattle.remove_vertex.proofs.remove_formed.Goals as goal

pub drop_vertex-requires : goal.drop_vertex-requires
drop_vertex-requires c = (search rules, (search (vertex-below, taken _ _ _ c.ok_or.ensures.value _ c.in_ok-i.was), search rules))

pub returns-in_err-i : goal.returns-in_err-i
unfolding remove_vertex_result
returns-in_err-i c = search (asked-missing, c.in_err-i.was)

pub returns : goal.returns
returns c = search (vertex-done, taken _ _ _ c.ok_or.ensures.value _ c.in_ok-i.was)
