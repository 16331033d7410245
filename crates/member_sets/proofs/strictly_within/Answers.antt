-- `member_sets::strictly_within` meets its contract. Assumes nothing.
use Rattle.properties.proofs.SetRows.{sizes-no, sizes-if}
use Rattle.member_sets.proofs.strictly_within.Goals as goal

pub returns-then-sizes-b : goal.returns-then-sizes-b
returns-then-sizes-b c = search sizes-no

pub returns : goal.returns
returns c = search sizes-if
