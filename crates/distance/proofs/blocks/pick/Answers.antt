-- `distance::blocks::pick` meets its contract. Assumes nothing.
use Rattle.distance.proofs.Keys.{pick-none, pick-from, pick_some}
use borrow.Author.Rules.{rules}
use Rattle.distance.proofs.blocks.pick.Goals as goal

pub returns-then-p-ge9223372036854775808 : goal.returns-then-p-ge9223372036854775808
returns-then-p-ge9223372036854775808 c = search pick-none

pub first_of-requires : goal.first_of-requires
first_of-requires c = (search rules, search pick-from)

pub returns : goal.returns
returns c = search pick_some
