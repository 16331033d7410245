-- `traversal::list_from` meets its contract. Assumes nothing.
use Rattle.steps.proofs.Numbers.{ordered-take}
use Rattle.traversal.proofs.Listing.{order-listed}
use borrow.Author.Rules.{rules}
use Rattle.traversal.proofs.list_from.Goals as goal

pub list_records-requires : goal.list_records-requires
list_records-requires c = record { formed = search rules; ordered = search ordered-take }

pub returns : goal.returns
returns c = search order-listed
