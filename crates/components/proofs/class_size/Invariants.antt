-- `components::class_size` meets its contract. Assumes nothing.
use mathlib.Core.Path.{◌≡◌}
use Prim.Native.Nat.{◌≤◌}
use Rattle.lists.specs.Tests.{count}
use Rattle.components.specs.Parts.{in_class}
use Rattle.components.proofs.class_size.Given as goal

abbrev pub invariant-loop-v : goal.invariant-loop-v
invariant-loop-v l = (l.v ≤ l.n) × (l.c ≤ l.v) × (l.c ≡ count (in_class l.ids l.k) l.v)
