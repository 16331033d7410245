-- `cut::gather` meets its contract: the matrix after the first j hyperedges. Assumes nothing.
use Rattle.cut.proofs.Gathering.{gathered-end}
use borrow.Author.Rules.{rules}
use Rattle.cut.proofs.gather.Goals as goal

pub loop-j-init : goal.loop-j-init
loop-j-init c = (search rules, search rules)

pub gather_record-requires : goal.gather_record-requires
gather_record-requires c = record { formed = search rules; j_bound = (search rules, search rules) }

pub loop-j-preserved : goal.loop-j-preserved
loop-j-preserved c = (search rules, search rules)

pub returns : goal.returns
returns c = search gathered-end
