-- `reads::vertex_weight_formed` meets its contract. Assumes nothing.
use Rattle.reads.proofs.Told.{vertex-within, vertex-told}
use Rattle.reads.specs.Reads.{vertex_weight_result}
use borrow.Author.Rules.{rules}
use Rattle.layout.proofs.Answers.{asked-missing, taken}
use Rattle.reads.proofs.vertex_weight_formed.Goals as goal

pub vertex_weight-requires : goal.vertex_weight-requires
vertex_weight-requires c = (search rules, search (vertex-within, rules, taken _ _ _ c.ok_or.ensures.value _ c.in_ok-i.was))

pub returns-in_err-i : goal.returns-in_err-i
unfolding vertex_weight_result
returns-in_err-i c = search (asked-missing, c.in_err-i.was)

pub returns : goal.returns
returns c = search (vertex-told, taken _ _ _ c.ok_or.ensures.value _ c.in_ok-i.was)
