-- `hyperedge_lines::hyperedges_from` meets its contract. Assumes nothing.
use Rattle.reader.proofs.HyperedgeLines.{HyperedgesSo}
use Rattle.hyperedge_lines.proofs.hyperedges_from.Given as goal

abbrev pub invariant-loop-i : goal.invariant-loop-i
invariant-loop-i l = HyperedgesSo l.text l.initial.words l.words l.low l.at l.to l.i
