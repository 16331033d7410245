-- `moves::drawn_hyperedge` meets its contract. Assumes nothing.
use Rattle.walk.proofs.Listing.{greater-drawn}
use borrow.Author.Rules.{rules}
use Rattle.moves.proofs.drawn_hyperedge.Goals as goal

pub total_weight-total-requires : goal.total_weight-total-requires
total_weight-total-requires c = record { formed = search rules; i_bound = (search rules, search rules, search rules) }

pub first_greater-requires : goal.first_greater-requires
first_greater-requires c = record { formed = search rules; i_bound = (search rules, search rules, search rules, search rules) }

pub returns : goal.returns
returns c = search greater-drawn
