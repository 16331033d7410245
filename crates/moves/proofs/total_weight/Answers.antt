-- `moves::total_weight` meets its contract. Assumes nothing.
use Rattle.walk.proofs.Listing.{summed-none, summed-more, summed-end, listers-limit}
use borrow.Author.Rules.{rules}
use Rattle.moves.proofs.total_weight.Goals as goal

pub loop-k-init : goal.loop-k-init
loop-k-init c = summed-none _ _ (search listers-limit)

pub lister-j-requires : goal.lister-j-requires
lister-j-requires c = record { formed = search rules; i_bound = (search rules, search rules, search rules) }

pub loop-k-preserved : goal.loop-k-preserved
loop-k-preserved c = search summed-more

pub returns : goal.returns
returns c = (search summed-end, search rules)
