-- `walking::write_walk` meets its contract. Assumes nothing.
use Rattle.layout.specs.Layout.{limit, read}
use Rattle.walk.specs.Walk.{walker}
use Rattle.walk.proofs.Walked.{Wrote}
use Rattle.walking.proofs.write_walk.Given as goal

abbrev pub invariant-loop-i : goal.invariant-loop-i
invariant-loop-i l = Wrote (read limit l.t) (walker l.initial.at l.initial.state) l.n l.initial.out l.at l.state l.i l.out
