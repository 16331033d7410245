-- `degrees::degree` meets its contract. Assumes nothing.
use Prim.Native.Nat.{◌≤◌, ◌-◌}
use Rattle.layout.specs.Layout.{limit, hyperedge_count, hyperedge_at}
use Rattle.lookups.specs.Lookups.{has_end, places_in}
use Rattle.lookups.proofs.Places.{Summed}
use Rattle.degrees.proofs.degree.Given as goal

abbrev pub invariant-loop-j : goal.invariant-loop-j
invariant-loop-j l = (l.j ≤ l.m) × Summed (places_in (has_end l.dir l.v)) (hyperedge_at limit l.t) (hyperedge_count l.t) limit l.j l.n

abbrev pub decreases-loop-j : goal.decreases-loop-j
decreases-loop-j l = l.m - l.j
