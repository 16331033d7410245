-- `desk_numbers::judge_numbers` meets its contract. Assumes nothing.
use mathlib.Core.Path.{◌≡◌}
use mathlib.Core.List.{map}
use Prim.Native.Nat.{◌≤◌}
use lib.ListN.{length, take}
use Rattle.tray_marks.specs.Marking.{tray_of}
use Rattle.desk_numbers.specs.Numbers.{of_kind}
use Rattle.desk_numbers.proofs.judge_numbers.Given as goal

abbrev pub invariant-loop-k : goal.invariant-loop-k
invariant-loop-k l = (l.k ≤ length l.numbers) × (l.tray ≡ tray_of l.t (take l.k (map (of_kind l.kind) l.numbers)))
