-- `path_sheets::weight_of` meets its contract. Assumes nothing.
use Rattle.reads.proofs.Told.{hyperedge-small}
use Rattle.path_sheets.proofs.Entries.{weight-missing, weight-found}
use borrow.Author.Rules.{rules}
use Rattle.path_sheets.proofs.weight_of.Goals as goal

pub hyperedge_weight-requires-in-Some : goal.hyperedge_weight-requires-in-Some
hyperedge_weight-requires-in-Some c = (search rules, search hyperedge-small)

pub returns-in-None : goal.returns-in-None
returns-in-None c = search weight-missing

pub returns-in-Some : goal.returns-in-Some
returns-in-Some c = search weight-found
