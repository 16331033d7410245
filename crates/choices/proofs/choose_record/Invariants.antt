-- `choices::choose_record` meets its contract: `Passing` at each place of the list. Assumes nothing.
use Rattle.distance.specs.Cost.{Listed}
use Rattle.paths.proofs.Choosing.{Passing}
use Rattle.choices.proofs.choose_record.Given as goal

abbrev pub invariant-loop-i : goal.invariant-loop-i
invariant-loop-i l = Passing l.t l.back l.j l.ms l.i l.a l.c × Listed l.c l.lists l.counts
