-- `cut_vertices::restore_row` meets its contract: the row up to the place. Assumes nothing.
use Rattle.cut.proofs.Searching.{Restored}
use Rattle.cut_vertices.proofs.restore_row.Given as goal

abbrev pub invariant-loop-j : goal.invariant-loop-j
invariant-loop-j l = Restored l.v l.j l.m l.rest
