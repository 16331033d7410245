-- `full_adjacent::tally_record` meets its contract. Assumes nothing.
use Prim.Native.Nat.{◌+◌, ◌≤◌}
use lib.ListN.{length}
use Rattle.layout.specs.Content.{live_vertices}
use Rattle.layout.specs.Layout.{limit, hyperedge_at, read}
use Rattle.lookups.specs.Lookups.{connecting}
use Rattle.lookups.specs.State.{listing_ahead, Tallied}
use Rattle.lookups.proofs.Tally.{passing}
use Rattle.full_adjacent.proofs.tally_record.Given as goal

abbrev pub invariant-loop-i : goal.invariant-loop-i
invariant-loop-i l = (l.i ≤ length l.ms) × Tallied (live_vertices (read limit l.t)) (connecting l.dir (read limit l.t) l.v) (passing l.dir l.v (hyperedge_at limit l.t l.j).number l.ms l.i (listing_ahead l.dir (read limit l.t) l.v (l.j + 1))) l.counts
