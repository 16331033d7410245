-- `intersections::keep_members` meets its contract. Assumes nothing.
use Rattle.lookups.proofs.Shared.{kept-members}
use Rattle.intersections.proofs.keep_members.Goals as goal

pub returns : goal.returns
returns c = search kept-members
