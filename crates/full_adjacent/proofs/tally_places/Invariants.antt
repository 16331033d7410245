-- `full_adjacent::tally_places` meets its contract. Assumes nothing.
use Prim.Native.Nat.{◌≤◌}
use Rattle.layout.specs.Content.{live_vertices}
use Rattle.layout.specs.Layout.{limit, read}
use Rattle.lookups.specs.Lookups.{connecting}
use Rattle.lookups.specs.State.{listing_ahead, Tallied}
use Rattle.full_adjacent.proofs.tally_places.Given as goal

abbrev pub invariant-loop-j : goal.invariant-loop-j
invariant-loop-j l = (l.j ≤ l.m) × Tallied (live_vertices (read limit l.t)) (connecting l.dir (read limit l.t) l.v) (listing_ahead l.dir (read limit l.t) l.v l.j) l.counts
