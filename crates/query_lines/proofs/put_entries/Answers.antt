-- `query_lines::put_entries` meets its contract. Assumes nothing.
use Rattle.query_lines.specs.Queries.{entries}
use Rattle.query_lines.proofs.Cases.{as-entered}
use Rattle.query_lines.proofs.put_entries.Goals as goal

pub returns-in-Tubes : goal.returns-in-Tubes
unfolding entries
returns-in-Tubes c = search as-entered

pub returns-in-Transfers : goal.returns-in-Transfers
unfolding entries
returns-in-Transfers c = search as-entered

pub returns-in-Pairs : goal.returns-in-Pairs
unfolding entries
returns-in-Pairs c = search as-entered

pub returns-in-TubesAndCosts : goal.returns-in-TubesAndCosts
unfolding entries
returns-in-TubesAndCosts c = search as-entered

pub returns-in-Groups : goal.returns-in-Groups
unfolding entries
returns-in-Groups c = search as-entered

pub returns-in-SourcesAndSinks : goal.returns-in-SourcesAndSinks
unfolding entries
returns-in-SourcesAndSinks c = search as-entered
