-- `steps::draw_record` meets its contract: `Drawing` at each place of the list. Assumes nothing.
use Rattle.steps.proofs.Drawing.{Drawing}
use Rattle.steps.proofs.draw_record.Given as goal

abbrev pub invariant-loop-i : goal.invariant-loop-i
invariant-loop-i l = Drawing l.t l.j l.forth l.back l.ms l.i l.a l.m
