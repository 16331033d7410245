-- `traversal::order_from` meets its contract: each order. Assumes nothing.
use Rattle.traversal.proofs.Listing.{ordered-bfs, ordered-dfs}
use Rattle.traversal.proofs.order_from.Goals as goal

pub returns-in-BreadthFirst : goal.returns-in-BreadthFirst
returns-in-BreadthFirst c = search ordered-bfs

pub returns-in-DepthFirst : goal.returns-in-DepthFirst
returns-in-DepthFirst c = search ordered-dfs
