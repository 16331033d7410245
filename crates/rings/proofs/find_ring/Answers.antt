-- `rings::find_ring` meets its contract. Assumes nothing.
use Rattle.rings.proofs.Going.{begun-marked, begun-back, ring-none, ring-stands}
use borrow.Author.Rules.{rules}
use Rattle.rings.proofs.find_ring.Goals as goal

pub returns-then-n-x : goal.returns-then-n-x
returns-then-n-x c = search ring-none

pub go_back-requires : goal.go_back-requires
go_back-requires c = record { n_bound = (search rules, search rules); marks = (search begun-marked, search begun-back) }

pub returns : goal.returns
returns c = search ring-stands
