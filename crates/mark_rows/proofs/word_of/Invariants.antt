-- `mark_rows::word_of` meets its contract. Assumes nothing.
use Prim.Native.Nat.{◌+◌, ◌≤◌}
use Rattle.graph.specs.Reach.{matrix}
use Rattle.mark_rows.proofs.Rows.{WordMade}
use Rattle.mark_rows.proofs.word_of.Given as goal

abbrev pub invariant-loop-b : goal.invariant-loop-b
invariant-loop-b l = (l.first + l.b ≤ l.end) × WordMade (matrix l.m l.x) l.first l.b l.word
