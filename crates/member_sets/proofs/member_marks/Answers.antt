-- `member_sets::member_marks` meets its contract. Assumes nothing.
use Rattle.lookups.specs.State.{no_marks}
use Rattle.properties.proofs.SetRows.{set-marked}
use Rattle.member_sets.proofs.member_marks.Goals as goal

pub returns : goal.returns
unfolding no_marks
returns c = search set-marked
