-- `distance::blocks::lowest` meets its contract: `Lowest` at each block. Assumes nothing.
use Rattle.distance.proofs.Keys.{lowest-first, lowest-more, lowest-end}
use borrow.Author.Rules.{rules}
use Rattle.distance.proofs.blocks.lowest.Goals as goal

pub loop-j-init : goal.loop-j-init
loop-j-init c = (search rules, search lowest-first)

pub loop-j-preserved : goal.loop-j-preserved
loop-j-preserved c = (search rules, search lowest-more)

pub returns : goal.returns
returns c = search lowest-end
