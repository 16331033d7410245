-- `desk_removals::merge_noted` meets its contract. Assumes nothing.
use Rattle.desk_removals.proofs.Removed.{merge-left, vertex-merged}
use Rattle.desk_removals.proofs.merge_noted.Goals as goal

pub follow_done-requires : goal.follow_done-requires
follow_done-requires c = search merge-left

pub returns : goal.returns
returns c = search vertex-merged
