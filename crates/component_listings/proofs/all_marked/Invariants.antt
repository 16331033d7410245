-- `component_listings::all_marked` meets its contract. Assumes nothing.
use mathlib.Core.Path.{◌≡◌}
use mathlib.Core.Bool.{true}
use Prim.Native.Nat.{◌≤◌}
use Rattle.lists.specs.Tests.{every}
use Rattle.components.specs.Parts.{flagged}
use Rattle.component_listings.proofs.all_marked.Given as goal

abbrev pub invariant-loop-v : goal.invariant-loop-v
invariant-loop-v l = (l.v ≤ l.n) × (every (flagged l.marks) l.v ≡ true)
