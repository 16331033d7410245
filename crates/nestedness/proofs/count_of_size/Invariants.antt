-- `nestedness::count_of_size` meets its contract. Assumes nothing.
use mathlib.Core.Path.{◌≡◌}
use Prim.Native.Nat.{◌≤◌}
use Rattle.lists.specs.Tests.{count}
use Rattle.properties.specs.State.{size_at}
use Rattle.nestedness.proofs.count_of_size.Given as goal

abbrev pub invariant-loop-j : goal.invariant-loop-j
invariant-loop-j l = (l.j ≤ l.k) × (l.c ≤ l.j) × (l.c ≡ count (size_at l.sizes l.marks l.s) l.j)
