-- `member_sets::part_within` meets its contract. Assumes nothing.
use mathlib.Core.Path.{◌≡◌}
use Prim.Native.Nat.{◌≤◌}
use Rattle.lists.specs.Tests.{every}
use Rattle.properties.specs.Properties.{under}
use Rattle.properties.specs.State.{row_of}
use Rattle.member_sets.proofs.part_within.Given as goal

abbrev pub invariant-loop-i : goal.invariant-loop-i
invariant-loop-i l = (l.i ≤ l.to) × (l.ok ≡ every (under (row_of l.m l.a) (row_of l.m l.b)) l.i)
