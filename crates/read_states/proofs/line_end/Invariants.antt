-- `read_states::line_end` meets its contract. Assumes nothing.
use mathlib.Core.Path.{◌≡◌}
use mathlib.Core.Bool.{false}
use Prim.Native.Nat.{◌-◌, ◌≤◌}
use lib.ListN.{length, take, drop}
use Rattle.lists.specs.Lists.{memb}
use Rattle.states_text.specs.Reading.{feed}
use Rattle.read_states.proofs.line_end.Given as goal

abbrev pub invariant-loop-i : goal.invariant-loop-i
invariant-loop-i l = (l.p ≤ l.i) × (l.i ≤ length l.text) × (memb feed (take (l.i - l.p) (drop l.p l.text)) ≡ false)
