-- `moves::lister_count` meets its contract. Assumes nothing.
use borrow.Author.Rules.{rules}
use Rattle.moves.proofs.lister_count.Goals as goal

pub returns : goal.returns
returns c = c.requires.i_bound.1.many _ (search rules)
