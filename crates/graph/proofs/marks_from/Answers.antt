-- `graph::marks_from` meets its contract. Assumes nothing.
use Rattle.graph.proofs.Held.{held_none}
use Rattle.graph.proofs.marks_from.Goals as goal

pub serve-requires : goal.serve-requires
serve-requires c = (c.requires.0, c.requires.1, held_none c.args.n c.requires.0)

pub returns : goal.returns
returns c = c.serve.ensures.marks
