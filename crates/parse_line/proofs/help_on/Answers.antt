-- `parse_line::help_on` meets its contract. Assumes nothing.
use Rattle.parse_line.proofs.Faults.{help-alone, help-at, help-none}
use Rattle.parse_line.proofs.help_on.Goals as goal

pub returns-then-rest-eq0 : goal.returns-then-rest-eq0
returns-then-rest-eq0 c = search help-alone

pub returns-in-Some : goal.returns-in-Some
returns-in-Some c = search help-at

pub returns-in-None : goal.returns-in-None
returns-in-None c = search help-none
