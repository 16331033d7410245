-- `orphans::others` meets its contract. Assumes nothing.
use Rattle.lookups.specs.State.{no_marks}
use Rattle.properties.proofs.Marking.{turned_none, turned_more, turned-end}
use borrow.Author.Rules.{rules}
use Rattle.orphans.proofs.others.Goals as goal

pub loop-k-init : goal.loop-k-init
unfolding no_marks
loop-k-init c = (search rules, turned_none _)

pub loop-k-preserved : goal.loop-k-preserved
loop-k-preserved c = (search rules, search turned_more)

pub returns : goal.returns
returns c = search turned-end
