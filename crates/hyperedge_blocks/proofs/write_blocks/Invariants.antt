-- `hyperedge_blocks::write_blocks` meets its contract. Assumes nothing.
use Prim.Native.Nat.{◌≤◌}
use Rattle.layout.specs.Layout.{limit, hyperedge_at}
use Rattle.lookups.specs.Lookups.{block}
use Rattle.lookups.proofs.Laid.{Laid}
use Rattle.hyperedge_blocks.proofs.write_blocks.Given as goal

abbrev pub invariant-loop-j : goal.invariant-loop-j
invariant-loop-j l = (l.j ≤ l.m) × Laid (block l.q) (hyperedge_at limit l.t) l.initial.out l.j l.c l.out
