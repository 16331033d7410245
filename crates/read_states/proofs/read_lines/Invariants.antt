-- `read_states::read_lines` meets its contract. Assumes nothing.
use Prim.Native.Nat.{◌-◌}
use lib.ListN.{length}
use Rattle.layout.specs.Layout.{limit, read}
use Rattle.read_states.specs.Noting.{Noting}
use Rattle.read_states.proofs.read_lines.Given as goal

abbrev pub invariant-loop-p : goal.invariant-loop-p
invariant-loop-p l = Noting (read limit l.t) l.text l.p l.low l.k l.ss

abbrev pub decreases-loop-p : goal.decreases-loop-p
decreases-loop-p l = length l.text - l.p
