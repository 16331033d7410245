-- `closure::list_pairs` meets its contract. Assumes nothing.
use Rattle.closure.proofs.Pairs.{pairs-over, pairs-fit, pairs-room}
use borrow.Author.Rules.{rules}
use Rattle.closure.proofs.list_pairs.Goals as goal

pub returns-then-out-need : goal.returns-then-out-need
returns-then-out-need c = search pairs-over

pub write_pairs-requires : goal.write_pairs-requires
write_pairs-requires c = record { formed = search rules; n_value = (search rules, search pairs-room) }

pub returns : goal.returns
returns c = search pairs-fit
