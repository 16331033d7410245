-- `component_listings::list_strong` meets its contract. Assumes nothing.
use Rattle.structural.proofs.ComponentsAnswers.{turned-back, strong-listed}
use borrow.Author.Rules.{rules}
use Rattle.component_listings.proofs.list_strong.Goals as goal

pub part_strong-c-requires : goal.part_strong-c-requires
part_strong-c-requires c = (search rules, search turned-back)

pub returns : goal.returns
returns c = search strong-listed
