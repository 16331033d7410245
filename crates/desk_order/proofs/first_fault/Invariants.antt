-- `desk_order::first_fault` meets its contract. Assumes nothing.
use Rattle.layout.specs.Layout.{limit, read}
use Rattle.desk_order.proofs.Faults.{Judging}
use Rattle.desk_order.proofs.first_fault.Given as goal

abbrev pub invariant-loop-i : goal.invariant-loop-i
invariant-loop-i l = Judging (read limit l.t) l.order l.i l.placed
