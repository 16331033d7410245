-- `steps::draw` meets its contract: the matrix after the first j hyperedges. Assumes nothing.
use borrow.Author.Rules.{rules}
use Rattle.steps.proofs.Drawing.{drawn-end}
use Rattle.steps.proofs.draw.Goals as goal

pub loop-j-init : goal.loop-j-init
loop-j-init c = (search rules, search rules)

pub draw_record-requires : goal.draw_record-requires
draw_record-requires c = record { formed = search rules; j_bound = (search rules, search rules) }

pub loop-j-preserved : goal.loop-j-preserved
loop-j-preserved c = (search rules, search rules)

pub returns : goal.returns
returns c = search drawn-end
