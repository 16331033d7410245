-- `hyperedge_listings::list_blocks` meets its contract. Assumes nothing.
use Rattle.layout.proofs.Answers.{listed-over, listed-fits}
use Rattle.hyperedge_listings.proofs.list_blocks.Goals as goal

pub returns-then-out-n : goal.returns-then-out-n
returns-then-out-n c = search listed-over

pub returns : goal.returns
returns c = search listed-fits
