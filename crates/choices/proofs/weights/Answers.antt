-- `choices::weights` meets its contract. Assumes nothing.
use Rattle.paths.proofs.Values.{weights-none, weights-more, weights-end}
use borrow.Author.Rules.{rules}
use Rattle.choices.proofs.weights.Goals as goal

pub loop-j-init : goal.loop-j-init
loop-j-init c = (search rules, weights-none _)

pub loop-j-preserved : goal.loop-j-preserved
loop-j-preserved c = (search rules, search weights-more)

pub returns : goal.returns
returns c = search weights-end
