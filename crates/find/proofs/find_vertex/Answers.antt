-- `find::find_vertex` meets its contract. Assumes nothing.
use Rattle.layout.proofs.Read.{vertices-rise, vertex-searched, vertex-dense, vertex-over}
use borrow.Author.Rules.{rules}
use Rattle.find.proofs.find_vertex.Goals as goal

pub find_number-requires : goal.find_number-requires
find_number-requires c = record { step_in_bounds = search rules; step_nonzero = search rules; ascending = search vertices-rise }

pub returns-then-wide-n : goal.returns-then-wide-n
returns-then-wide-n c = search vertex-searched

pub returns-then-x-n : goal.returns-then-x-n
returns-then-x-n c = search vertex-dense

pub returns : goal.returns
returns c = search vertex-over
