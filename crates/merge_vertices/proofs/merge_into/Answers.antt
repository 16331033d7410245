-- `merge_vertices::merge_into` meets its contract. Assumes nothing.
use Rattle.merge_vertices.proofs.Merging.{gone-here, gone-live}
use borrow.Author.Rules.{rules}
use Rattle.layout.proofs.Answers.{asked-missing, taken}
use Rattle.edits.specs.Stages.{merge_into_result}
use Rattle.merge_vertices.proofs.merge_into.Goals as goal

pub merge_live-requires : goal.merge_live-requires
merge_live-requires c = record { formed = search rules; t_value = search (gone-here, taken _ _ _ c.ok_or.ensures.value _ c.in_ok-i.was) }

pub returns-in_err-i : goal.returns-in_err-i
unfolding merge_into_result
returns-in_err-i c = search (asked-missing, c.in_err-i.was)

pub returns : goal.returns
returns c = search (gone-live, taken _ _ _ c.ok_or.ensures.value _ c.in_ok-i.was)
