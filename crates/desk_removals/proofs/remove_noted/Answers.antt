-- `desk_removals::remove_noted` meets its contract. Assumes nothing.
use Rattle.desk_removals.proofs.Removed.{vertex-left, vertex-removed}
use Rattle.desk_removals.proofs.remove_noted.Goals as goal

pub follow_done-requires : goal.follow_done-requires
follow_done-requires c = search vertex-left

pub returns : goal.returns
returns c = search vertex-removed
