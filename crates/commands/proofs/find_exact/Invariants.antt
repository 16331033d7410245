-- `commands::find_exact` meets its contract: what is left of the names says of all. Assumes nothing.
use mathlib.Core.Path.{◌≡◌}
use Prim.Native.Nat.{◌≤◌, ◌<◌}
use lib.ListN.{length, drop}
use Rattle.lists.specs.Lists.{same_list, tab}
use Rattle.edits.specs.Results.{first_passing, first_passing_from}
use Rattle.commands.specs.Commands.{command_count, names, name_at}
use Rattle.commands.proofs.find_exact.Given as goal

abbrev pub invariant-loop-k : goal.invariant-loop-k
invariant-loop-k l = (l.k ≤ command_count) × (0 < length l.bytes) × (first_passing_from (same_list l.bytes) l.k (drop l.k (tab name_at command_count)) ≡ first_passing (same_list l.bytes) names)
