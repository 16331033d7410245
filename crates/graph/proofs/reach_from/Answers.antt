-- `graph::reach_from` meets its contract. Assumes nothing.
use Rattle.graph.proofs.Held.{held_none}
use Rattle.graph.proofs.Post.{reached}
use Rattle.graph.proofs.reach_from.Goals as goal

pub serve-requires : goal.serve-requires
serve-requires c = (c.requires.0, c.requires.1, held_none c.args.n c.requires.0)

pub returns : goal.returns
returns c = reached c.requires.1 c.serve.ensures
