-- `component_listings::connected` meets its contract. Assumes nothing.
use Rattle.structural.proofs.ComponentsAnswers.{connected-none, connected-all}
use Rattle.component_listings.proofs.connected.Goals as goal

pub returns-then-n-eq0 : goal.returns-then-n-eq0
returns-then-n-eq0 c = search connected-none

pub returns : goal.returns
returns c = search connected-all
