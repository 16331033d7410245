-- `membership::enter_record` meets its contract. Assumes nothing.
use Rattle.walk.specs.Passes.{Entering}
use Rattle.membership.proofs.enter_record.Given as goal

abbrev pub invariant-loop-p : goal.invariant-loop-p
invariant-loop-p l = Entering l.t l.j l.p l.rows l.counts
