-- `state_lines::number_of` meets its contract. Assumes nothing.
use mathlib.Core.Path.{◌≡◌}
use Prim.Native.Nat.{◌+◌, ◌-◌, ◌≤◌}
use lib.ListN.{length, take, drop}
use Rattle.states_text.specs.Reading.{value_from}
use Rattle.state_lines.proofs.number_of.Given as goal

abbrev pub invariant-loop-i : goal.invariant-loop-i
invariant-loop-i l = (9 ≤ l.i) × (l.i ≤ 9 + (length l.line - 10)) × (l.v ≡ value_from 0 (take (l.i - 9) (drop 9 l.line))) × (l.v ≤ 42949673205)
