-- `graph::put_others` meets its contract: `Laid` at each number. Assumes nothing.
use Rattle.graph.proofs.Sifted.{Laid}
use Rattle.graph.proofs.put_others.Given as goal

abbrev pub invariant-loop-j : goal.invariant-loop-j
invariant-loop-j l = Laid l.n l.start l.j l.w l.rest
