-- `query_lines::put_entries_or_none` meets its contract. Assumes nothing.
use Rattle.query_lines.proofs.Cases.{none-entered, some-entered}
use Rattle.query_lines.proofs.put_entries_or_none.Goals as goal

pub returns-then-ws-eq0 : goal.returns-then-ws-eq0
returns-then-ws-eq0 c = search none-entered

pub returns : goal.returns
returns c = search some-entered
