-- `full_entries::write_heads` meets its contract. Assumes nothing.
use mathlib.Core.Path.{◌≡◌}
use Prim.Native.Nat.{◌≤◌}
use Rattle.layout.specs.Content.{live_vertices}
use Rattle.layout.specs.Layout.{limit, read}
use Rattle.lookups.specs.State.{start, Headed}
use Rattle.full_entries.proofs.write_heads.Given as goal

abbrev pub invariant-loop-k : goal.invariant-loop-k
invariant-loop-k l = (l.k ≤ l.n) × ((l.c ≡ start l.counts l.k) × Headed (live_vertices (read limit l.t)) l.counts l.initial.out l.k l.nexts l.out)
