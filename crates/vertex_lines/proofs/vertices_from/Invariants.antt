-- `vertex_lines::vertices_from` meets its contract. Assumes nothing.
use Rattle.reader.proofs.VertexLines.{VerticesSo}
use Rattle.vertex_lines.proofs.vertices_from.Given as goal

abbrev pub invariant-loop-i : goal.invariant-loop-i
invariant-loop-i l = VerticesSo l.text l.initial.words l.words l.low l.at l.to l.i
