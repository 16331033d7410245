-- `batches::run_lines` meets its contract. Assumes nothing.
use mathlib.Core.Path.{◌≡◌}
use Prim.Native.Nat.{◌+◌, ◌-◌, ◌≤◌}
use lib.ListN.{length, drop}
use Rattle.desk.specs.Desk.{desk_of}
use Rattle.wording.specs.Pages.{page}
use Rattle.batches.specs.declared.Ending.TheVariants.{Done}
use Rattle.batches.specs.Batches.{carried, lines_of, ended, said}
use Rattle.batches.proofs.run_lines.Given as goal

abbrev pub invariant-loop-from : goal.invariant-loop-from
invariant-loop-from l =
    (l.from ≤ length l.batch)
    × (l.i ≤ l.from + 1)
    × (length l.t ≡ length l.initial.t)
    × (length l.s ≡ length l.initial.s)
    × (length l.out ≡ length l.initial.out)
    × (carried l.how l.name l.i (lines_of (drop l.from l.batch)) (ended (desk_of l.t l.s) (said Done (page l.out l.at))) ≡ carried l.how l.name 1 (lines_of l.batch) (ended (desk_of l.initial.t l.initial.s) (said Done (page l.initial.out 0))))

abbrev pub decreases-loop-from : goal.decreases-loop-from
decreases-loop-from l = length l.batch - l.from
