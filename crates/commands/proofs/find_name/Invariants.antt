-- `commands::find_name` meets its contract: what is left of the names says of all. Assumes nothing.
use mathlib.Core.Path.{◌≡◌}
use Prim.Native.Nat.{◌≤◌}
use lib.ListN.{drop}
use Rattle.lists.specs.Lists.{tab}
use Rattle.edits.specs.Results.{first_passing_from}
use Rattle.commands.specs.Commands.{command_count, name_at, opens_with, named}
use Rattle.commands.proofs.find_name.Given as goal

abbrev pub invariant-loop-k : goal.invariant-loop-k
invariant-loop-k l = (l.k ≤ command_count) × (first_passing_from (opens_with l.line) l.k (drop l.k (tab name_at command_count)) ≡ named l.line)
