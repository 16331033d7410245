-- `member_sets::still` meets its contract. Assumes nothing.
use Rattle.properties.proofs.SetRows.{still-bare, still-no, still-yes}
use Rattle.member_sets.proofs.still.Goals as goal

pub returns-then-not-p : goal.returns-then-not-p
returns-then-not-p c = search still-bare

pub returns-then-not-q : goal.returns-then-not-q
returns-then-not-q c = search still-no

pub returns : goal.returns
returns c = search still-yes
