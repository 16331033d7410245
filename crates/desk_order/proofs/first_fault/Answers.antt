-- `desk_order::first_fault` meets its contract. Assumes nothing.
use Rattle.lookups.specs.State.{no_marks}
use Rattle.desk_order.proofs.Faults.{judging-first, judging-on, judging-here, judging-none}
use Rattle.desk_order.proofs.first_fault.Goals as goal

pub loop-i-init : goal.loop-i-init
unfolding no_marks
loop-i-init c = search judging-first

pub returns-then-is_at_fault : goal.returns-then-is_at_fault
returns-then-is_at_fault c = search judging-here

pub loop-i-preserved : goal.loop-i-preserved
loop-i-preserved c = search judging-on

pub returns : goal.returns
returns c = search judging-none
