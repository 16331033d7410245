-- `closed_walk::list_walk` meets its contract. Assumes nothing.
use Rattle.steps.proofs.Numbers.{ordered-take}
use Rattle.closed_walk.proofs.Naming.{walk-listed}
use borrow.Author.Rules.{rules}
use Rattle.closed_walk.proofs.list_walk.Goals as goal

pub list_records-requires : goal.list_records-requires
list_records-requires c = record { formed = search rules; ordered = search ordered-take }

pub returns : goal.returns
returns c = search walk-listed
