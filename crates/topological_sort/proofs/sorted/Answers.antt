-- `topological_sort::sorted` meets its contract. Assumes nothing.
use Rattle.structural.proofs.SortingAnswers.{sort-refused, sort-ordered, sort-listed}
use borrow.Author.Rules.{rules}
use Rattle.topological_sort.proofs.sorted.Goals as goal

pub returns-then-not-found : goal.returns-then-not-found
returns-then-not-found c = search sort-refused

pub list_records-requires : goal.list_records-requires
list_records-requires c = record { formed = search rules; ordered = search sort-ordered }

pub returns : goal.returns
returns c = search sort-listed
