-- `batch_changes::has_change` meets its contract. Assumes nothing.
use mathlib.Core.Path.{◌≡◌}
use Prim.Native.Nat.{◌-◌, ◌≤◌}
use lib.ListN.{length, drop}
use Rattle.lists.specs.Lists.{any}
use Rattle.batches.specs.Batches.{lines_of}
use Rattle.batch_changes.specs.Changing.{changing, has_change}
use Rattle.batch_changes.proofs.has_change.Given as goal

abbrev pub invariant-loop-from : goal.invariant-loop-from
invariant-loop-from l = (l.from ≤ length l.batch) × (any changing (lines_of (drop l.from l.batch)) ≡ has_change l.batch)

abbrev pub decreases-loop-from : goal.decreases-loop-from
decreases-loop-from l = length l.batch - l.from
