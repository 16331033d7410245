-- `update_hyperedge_vertices::update_judged` meets its contract. Assumes nothing.
use Rattle.edits.proofs.UpdateHyperedge.{update_found, update-live}
use borrow.Author.Rules.{rules}
use Rattle.layout.proofs.Answers.{asked-missing, taken}
use Rattle.edits.specs.Stages.{update_judged_result}
use Rattle.update_hyperedge_vertices.proofs.update_judged.Goals as goal

pub update_at-requires : goal.update_at-requires
update_at-requires c = record {
  formed = search rules;
  t_value = (search (update_found, taken _ _ _ c.ok_or.ensures.value _ c.in_ok-j.was), (search rules, search rules));
}

pub returns-in_err-j : goal.returns-in_err-j
unfolding update_judged_result
returns-in_err-j c = search (asked-missing, c.in_err-j.was)

pub returns : goal.returns
returns c = search (update-live, taken _ _ _ c.ok_or.ensures.value _ c.in_ok-j.was)
