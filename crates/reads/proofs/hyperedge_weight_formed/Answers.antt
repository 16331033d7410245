-- `reads::hyperedge_weight_formed` meets its contract. Assumes nothing.
use Rattle.reads.proofs.Told.{hyperedge-small, hyperedge-told}
use Rattle.reads.specs.Reads.{hyperedge_weight_result}
use borrow.Author.Rules.{rules}
use Rattle.layout.proofs.Answers.{asked-missing, taken}
use Rattle.reads.proofs.hyperedge_weight_formed.Goals as goal

pub hyperedge_weight-requires : goal.hyperedge_weight-requires
hyperedge_weight-requires c = (search rules, search (hyperedge-small, taken _ _ _ c.ok_or.ensures.value _ c.in_ok-j.was))

pub returns-in_err-j : goal.returns-in_err-j
unfolding hyperedge_weight_result
returns-in_err-j c = search (asked-missing, c.in_err-j.was)

pub returns : goal.returns
returns c = search (hyperedge-told, taken _ _ _ c.ok_or.ensures.value _ c.in_ok-j.was)
