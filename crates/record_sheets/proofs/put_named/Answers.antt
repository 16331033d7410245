-- `record_sheets::put_named` meets its contract. Assumes nothing.
use Rattle.record_sheets.proofs.Records.{named-waiting, named-reviewed, named-released}
use Rattle.record_sheets.proofs.put_named.Goals as goal

pub returns-then-state-eq-WAITING : goal.returns-then-state-eq-WAITING
returns-then-state-eq-WAITING c = search named-waiting

pub returns-then-state-eq-REVIEWED : goal.returns-then-state-eq-REVIEWED
returns-then-state-eq-REVIEWED c = search named-reviewed

pub returns : goal.returns
returns c = search named-released
