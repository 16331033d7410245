-- `relaxed::relax` meets its contract. Assumes nothing.
use mathlib.Core.Path.{◌≡◌}
use Prim.Native.Nat.{◌≤◌}
use lib.ListN.{get_or}
use Rattle.distance.proofs.Cost.{Part}
use Rattle.distance.specs.Cost.{step_in, key_in}
use Rattle.distance.specs.Blocks.{Blocks}
use Rattle.relaxed.proofs.relax.Given as goal

abbrev pub invariant-loop-i : goal.invariant-loop-i
invariant-loop-i l = (l.end ≡ get_or l.counts l.u 0) × (l.end ≤ 256) × (l.i ≤ l.end) × Part (step_in l.c) (key_in l.c l.w) l.n l.u l.lists l.initial.m l.initial.d l.i l.m l.d × Blocks l.n l.m l.d l.b
