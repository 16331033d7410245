-- `hyperedge_blocks::copy` meets its contract. Assumes nothing.
use Prim.Native.Nat.{◌≤◌}
use lib.ListN.{length}
use Rattle.lookups.proofs.Laid.{Copied}
use Rattle.hyperedge_blocks.proofs.copy.Given as goal

abbrev pub invariant-loop-i : goal.invariant-loop-i
invariant-loop-i l = (l.i ≤ length l.xs) × Copied l.xs l.initial.out l.i l.out
