-- `properties::uniform` meets its contract. Assumes nothing.
use mathlib.Core.Path.{◌≡◌}
use mathlib.Core.Bool.{true}
use Prim.Native.Nat.{◌≤◌}
use Rattle.lists.specs.Tests.{every}
use Rattle.layout.specs.Layout.{limit}
use Rattle.properties.proofs.Members.{count_is}
use Rattle.properties.proofs.uniform.Given as goal

abbrev pub invariant-loop-j : goal.invariant-loop-j
invariant-loop-j l = (l.j ≤ l.m) × (every (count_is limit l.k l.t) l.j ≡ true)
