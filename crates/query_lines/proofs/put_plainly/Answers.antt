-- `query_lines::put_plainly` meets its contract. Assumes nothing.
use Rattle.query_lines.specs.Queries.{plainly}
use Rattle.query_lines.proofs.Cases.{as_plain}
use Rattle.query_lines.proofs.put_plainly.Goals as goal

pub returns-in-Tubes : goal.returns-in-Tubes
unfolding plainly
returns-in-Tubes c = search as_plain

pub returns-in-Transfers : goal.returns-in-Transfers
unfolding plainly
returns-in-Transfers c = search as_plain

pub returns-in-Pairs : goal.returns-in-Pairs
unfolding plainly
returns-in-Pairs c = search as_plain

pub returns-in-TubesAndCosts : goal.returns-in-TubesAndCosts
unfolding plainly
returns-in-TubesAndCosts c = search as_plain

pub returns-in-Groups : goal.returns-in-Groups
unfolding plainly
returns-in-Groups c = search as_plain

pub returns-in-SourcesAndSinks : goal.returns-in-SourcesAndSinks
unfolding plainly
returns-in-SourcesAndSinks c = search as_plain
