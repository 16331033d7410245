-- `add_hyperedge::add_judged` meets its contract. Assumes nothing.
use Rattle.edits.proofs.Identical.{identical-within, on-identical, on-new}
use borrow.Author.Rules.{rules}
use Rattle.add_hyperedge.proofs.add_judged.Goals as goal

pub hyperedge_number-requires : goal.hyperedge_number-requires
hyperedge_number-requires c = (search rules, search identical-within)

pub returns-in-Some : goal.returns-in-Some
returns-in-Some c = search on-identical

pub returns : goal.returns
returns c = search on-new
