-- `moves::to_one_of` meets its contract. Assumes nothing.
use Rattle.walk.proofs.Others.{stays, goes, picked-below}
use borrow.Author.Rules.{rules}
use Rattle.moves.proofs.to_one_of.Goals as goal

pub list_others-n-requires : goal.list_others-n-requires
list_others-n-requires c = record { formed = search rules; j_bound = (search rules, search rules, search rules) }

pub returns-then-n-eq0 : goal.returns-then-n-eq0
returns-then-n-eq0 c = search stays

pub pick-requires : goal.pick-requires
pick-requires c = search picked-below

pub returns : goal.returns
returns c = search goes
