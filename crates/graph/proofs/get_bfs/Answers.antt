-- `graph::get_bfs` meets its contract. Assumes nothing.
use Rattle.graph.proofs.Held.{held_none}
use Rattle.graph.proofs.get_bfs.Goals as goal

pub serve-r-requires : goal.serve-r-requires
serve-r-requires c = (c.requires.0, c.requires.1, held_none c.args.n c.requires.0)
