-- `sort_sheet::print_lines` is safe and ends. Assumes nothing.
use Prim.Native.Nat.{◌≤◌, ◌<◌}
use Rattle.sort_sheet.proofs.print_lines.Given as goal

abbrev pub invariant-loop-i : goal.invariant-loop-i
invariant-loop-i g l = (l.i ≤ l.n) × (l.n < 18446744073709551616)
