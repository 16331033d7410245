-- `hyperedge_listings::list_of_vertex` meets its contract. Assumes nothing.
use Rattle.lookups.specs.Results.{listing_result}
use Rattle.layout.proofs.Answers.{asked-missing, asked-found}
use Rattle.hyperedge_listings.proofs.list_of_vertex.Goals as goal

pub returns-in_err-ok_or : goal.returns-in_err-ok_or
unfolding listing_result
returns-in_err-ok_or c = search (asked-missing, c.in_err-ok_or.was)

pub returns : goal.returns
unfolding listing_result
returns c = search (asked-found, c.in_ok-ok_or.was)
