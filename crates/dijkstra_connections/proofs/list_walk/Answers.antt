-- `dijkstra_connections::list_walk` meets its contract. Assumes nothing.
use Rattle.paths.proofs.Writing.{head-room, walk-over, walk-fits}
use borrow.Author.Rules.{rules}
use Rattle.dijkstra_connections.proofs.list_walk.Goals as goal

pub returns-then-out-needed : goal.returns-then-out-needed
returns-then-out-needed c = search walk-over

pub put_steps-requires : goal.put_steps-requires
put_steps-requires c = record { formed = search rules; chosen = (search rules, search rules, search rules, search head-room) }

pub returns : goal.returns
returns c = search walk-fits
