-- `component_listings::list_closure` meets its contract. Assumes nothing.
use Rattle.structural.proofs.ClosureAnswers.{closure-listed}
use Rattle.component_listings.proofs.list_closure.Goals as goal

pub returns : goal.returns
returns c = search closure-listed
