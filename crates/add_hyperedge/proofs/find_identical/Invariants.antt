-- `add_hyperedge::find_identical` meets its contract: what is left of the search is the whole of it. Assumes nothing.
use mathlib.Core.Path.{◌≡◌}
use Prim.Native.Nat.{◌≤◌}
use lib.ListN.{drop}
use Rattle.layout.specs.Layout.{limit, hyperedge_count, read_hyperedges}
use Rattle.edits.specs.Results.{identical, first_passing, first_passing_from}
use Rattle.add_hyperedge.proofs.find_identical.Given as goal

abbrev pub invariant-loop-j : goal.invariant-loop-j
invariant-loop-j l = (l.j ≤ l.m) × (l.m ≡ hyperedge_count l.t) × (first_passing_from (identical l.members l.weight) l.j (drop l.j (read_hyperedges limit l.t)) ≡ first_passing (identical l.members l.weight) (read_hyperedges limit l.t))
