-- `hyperedge_blocks::count_blocks` meets its contract. Assumes nothing.
use Prim.Native.Nat.{suc, ◌≤◌}
use Rattle.layout.specs.Layout.{limit, hyperedge_count, hyperedge_at}
use Rattle.lookups.specs.State.{block_length}
use Rattle.lookups.proofs.Places.{Summed}
use Rattle.hyperedge_blocks.proofs.count_blocks.Given as goal

abbrev pub invariant-loop-j : goal.invariant-loop-j
invariant-loop-j l = (l.j ≤ l.m) × Summed (block_length l.q) (hyperedge_at limit l.t) (hyperedge_count l.t) (suc limit) l.j l.n
