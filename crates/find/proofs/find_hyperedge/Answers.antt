-- `find::find_hyperedge` meets its contract. Assumes nothing.
use Rattle.layout.specs.Layout.{limit}
use Rattle.layout.proofs.Read.{hyperedges-rise, hyperedge-searched}
use borrow.Author.Rules.{rules}
use Rattle.find.proofs.find_hyperedge.Goals as goal

pub find_number-requires : goal.find_number-requires
find_number-requires c = record { step_in_bounds = search rules; step_nonzero = search rules; ascending = hyperedges-rise limit _ _ c.requires c.hyperedge_count-m.ensures }

pub returns : goal.returns
returns c = search hyperedge-searched
