-- `command_forms::takes` meets its contract. Assumes nothing.
use Rattle.command_forms.proofs.Asks.{takes-few, takes-many, takes-so}
use Rattle.command_forms.proofs.takes.Goals as goal

pub returns-then-n-counts : goal.returns-then-n-counts
returns-then-n-counts c = search takes-few

pub returns-then-counts-n : goal.returns-then-counts-n
returns-then-counts-n c = search takes-many

pub returns : goal.returns
returns c = search takes-so
