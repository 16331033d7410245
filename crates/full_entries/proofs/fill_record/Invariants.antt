-- `full_entries::fill_record` meets its contract. Assumes nothing.
use Prim.Native.Nat.{◌+◌, ◌≤◌}
use lib.ListN.{length}
use Rattle.layout.specs.Content.{live_vertices}
use Rattle.layout.specs.Layout.{limit, read}
use Rattle.lookups.specs.Lookups.{connecting}
use Rattle.lookups.specs.State.{listing_ahead, Beyond, offset, Filling}
use Rattle.lookups.proofs.Tally.{passing}
use Rattle.full_entries.proofs.fill_record.Given as goal

abbrev pub invariant-loop-i : goal.invariant-loop-i
invariant-loop-i l =
    (l.i ≤ length l.ms)
    × (Filling (live_vertices (read limit l.t)) (connecting l.dir (read limit l.t) l.v) (passing l.dir l.v l.e l.ms l.i (listing_ahead l.dir (read limit l.t) l.v (l.j + 1))) l.nexts l.out
    × Beyond (offset (live_vertices (read limit l.t)) (connecting l.dir (read limit l.t) l.v) (length (live_vertices (read limit l.t)))) l.initial.out l.out)
