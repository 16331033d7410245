-- `full_entries::fill` meets its contract. Assumes nothing.
use Prim.Native.Nat.{◌≤◌}
use lib.ListN.{length}
use Rattle.layout.specs.Content.{live_vertices}
use Rattle.layout.specs.Layout.{limit, read}
use Rattle.lookups.specs.Lookups.{connecting}
use Rattle.lookups.specs.State.{listing_ahead, Beyond, offset, Filling}
use Rattle.full_entries.proofs.fill.Given as goal

abbrev pub invariant-loop-j : goal.invariant-loop-j
invariant-loop-j l =
    (l.j ≤ l.m)
    × (Filling (live_vertices (read limit l.t)) (connecting l.dir (read limit l.t) l.v) (listing_ahead l.dir (read limit l.t) l.v l.j) l.nexts l.out
    × Beyond (offset (live_vertices (read limit l.t)) (connecting l.dir (read limit l.t) l.v) (length (live_vertices (read limit l.t)))) l.initial.out l.out)
