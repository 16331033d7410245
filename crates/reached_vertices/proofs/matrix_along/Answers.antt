-- `reached_vertices::matrix_along` meets its contract. Assumes nothing.
use Rattle.reached_vertices.proofs.Walks.{along-from, along-to}
use Rattle.reached_vertices.proofs.matrix_along.Goals as goal

pub returns-in-From : goal.returns-in-From
returns-in-From c = search along-from

pub returns-in-To : goal.returns-in-To
returns-in-To c = search along-to
