-- `dijkstra_connections::put_step` meets its contract. Assumes nothing.
use Rattle.paths.proofs.Writing.{step_words_lem}
use Rattle.dijkstra_connections.proofs.put_step.Goals as goal

pub returns : goal.returns
returns c = search step_words_lem
