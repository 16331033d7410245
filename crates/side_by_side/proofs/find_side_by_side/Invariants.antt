-- `side_by_side::find_side_by_side` meets its contract: what is left of the search is the whole of it. Assumes nothing.
use mathlib.Core.Path.{◌≡◌}
use Prim.Native.Nat.{◌≤◌}
use lib.ListN.{drop}
use Rattle.layout.specs.Layout.{limit, hyperedge_count, read_hyperedges}
use Rattle.edits.specs.Results.{side_by_side, first_passing, first_passing_from}
use Rattle.side_by_side.proofs.find_side_by_side.Given as goal

abbrev pub invariant-loop-j : goal.invariant-loop-j
invariant-loop-j l = (l.j ≤ l.m) × (l.m ≡ hyperedge_count l.t) × (first_passing_from (side_by_side l.v l.w) l.j (drop l.j (read_hyperedges limit l.t)) ≡ first_passing (side_by_side l.v l.w) (read_hyperedges limit l.t))
