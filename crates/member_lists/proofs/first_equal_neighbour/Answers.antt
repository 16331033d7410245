-- `member_lists::first_equal_neighbour` meets its contract. Assumes nothing.
use Rattle.std.proofs.Common.{rules}
use Rattle.std.proofs.iter.runs.Made.{chains}
use Rattle.member_lists.proofs.Neighbours.{FirstEqual, first_equal}
use Rattle.member_lists.proofs.first_equal_neighbour.Goals as goal

pub returns : goal.returns
returns c =
    let e : FirstEqual c.args.list.now c.position.result = search (rules, chains) in first_equal _ _ e
