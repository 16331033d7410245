-- `moves::first_greater` meets its contract. Assumes nothing.
use Rattle.walk.proofs.Listing.{left-all, left-take, left-on, left_end, listers-limit}
use borrow.Author.Rules.{rules}
use Rattle.moves.proofs.first_greater.Goals as goal

pub loop-k-init : goal.loop-k-init
loop-k-init c = left-all _ _ _ (search listers-limit)

pub lister-j-requires : goal.lister-j-requires
lister-j-requires c = record { formed = search rules; i_bound = (search rules, search rules, search rules) }

pub returns-then-greater : goal.returns-then-greater
returns-then-greater c = search left-take

pub loop-k-preserved : goal.loop-k-preserved
loop-k-preserved c = search left-on

pub lister-requires : goal.lister-requires
lister-requires c = record { formed = search rules; i_bound = (search rules, search rules, search rules) }

pub returns : goal.returns
returns c = search left_end
