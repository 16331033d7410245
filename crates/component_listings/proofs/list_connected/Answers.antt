-- `component_listings::list_connected` meets its contract. Assumes nothing.
use Rattle.structural.proofs.ComponentsAnswers.{link-symmetric, linked-listed}
use borrow.Author.Rules.{rules}
use Rattle.component_listings.proofs.list_connected.Goals as goal

pub part_linked-c-requires : goal.part_linked-c-requires
part_linked-c-requires c = (search rules, search link-symmetric)

pub returns : goal.returns
returns c = search linked-listed
