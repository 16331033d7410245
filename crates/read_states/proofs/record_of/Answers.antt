-- `read_states::record_of` meets its contract. Assumes nothing.
use mathlib.Core.Path.{ap, ◌∙◌}
use Rattle.read_states.specs.Noting.{record_of}
use Rattle.read_states.proofs.Noted.{record_found}
use Rattle.read_states.proofs.record_of.Goals as goal

pub returns : goal.returns
returns c = c.unwrap_or.ensures ∙ record_found c.find_vertex.result ∙ ap record_of c.find_vertex.ensures
