-- `intersections::list_shared` meets its contract. Assumes nothing.
use Rattle.lookups.specs.Lookups.{shared}
use Rattle.lookups.specs.Results.{intersections_result}
use Rattle.lookups.proofs.Marking.{marks-listed}
use Rattle.lookups.proofs.Shared.{too_few_lem, missing-within, shared-missing, shared-listed}
use borrow.Author.Rules.{rules}
use Rattle.intersections.proofs.list_shared.Goals as goal

pub returns-then-hyperedges-lt2 : goal.returns-then-hyperedges-lt2
unfolding intersections_result
returns-then-hyperedges-lt2 c = search too_few_lem

pub offset_bounds-hyperedges-i : goal.offset_bounds-hyperedges-i
offset_bounds-hyperedges-i c = search (rules, missing-within)

pub bounds-hyperedges-i : goal.bounds-hyperedges-i
bounds-hyperedges-i c = search missing-within

pub returns-in-Some : goal.returns-in-Some
returns-in-Some c = search shared-missing

pub returns : goal.returns
unfolding shared
returns c = search (shared-listed, marks-listed)
