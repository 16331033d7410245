-- `desk_release::first_held` meets its contract: what is left of the search is the whole of it. Assumes nothing.
use mathlib.Core.Path.{◌≡◌}
use Prim.Native.Nat.{◌≤◌}
use lib.ListN.{drop}
use Rattle.lists.specs.Lists.{up_to}
use Rattle.edits.specs.Results.{first_passing_from, first_passing}
use Rattle.desk_release.specs.Held.{held_at}
use Rattle.desk_release.proofs.first_held.Given as goal

abbrev pub invariant-loop-k : goal.invariant-loop-k
invariant-loop-k l = (l.k ≤ l.n) × (first_passing_from (held_at l.s l.marks) l.k (drop l.k (up_to l.n)) ≡ first_passing (held_at l.s l.marks) (up_to l.n))
