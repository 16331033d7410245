-- Which other vertices are reached from a vertex, and from which others it is reached. Assumes nothing.
use Rattle.std.specs.Prelude.{◌≡◌, Bool, not, List, ℕ, eqb}
use Rattle.lists.specs.Tests.{◌and◌}
use Rattle.lists.specs.Lists.{filter}
use Rattle.walks.specs.Walks.{Reach}
use Rattle.layout.specs.Content.{Table, live_vertices}
use Rattle.layout.specs.Steps.{StepIn}
use Rattle.layout.specs.Answers.{Result, on_live_vertex, listed}
use Rattle.lookups.specs.declared.Direction.{Direction}
use Rattle.lookups.specs.declared.Direction.TheVariants.{From, To}
use Rattle.lookups.specs.Lookups.{oriented}
use Rattle.traversal.specs.Traversal.{reachable}

-- ---- the property

-- a walk along steps leads from v to y, or from y to v
abbrev pub Leads : Direction → Table → ℕ → ℕ → Type 0
Leads From t v y = Reach (StepIn t) v y
Leads To t v y = Reach (StepIn t) y v

-- y is another vertex that is downstream of v, or upstream of it
pub record OtherReached (dir : Direction) (t : Table) (v y : ℕ) : Type 0 where
  pub other : y ≡ v → ⊥
  pub walk : Leads dir t v y

-- ---- the same, computed

-- y is reached from v, or v from y; and y is not v
unfoldable pub is_other_reached : Direction → Table → ℕ → ℕ → Bool
is_other_reached dir t v y = oriented dir (reachable t) v y and not (eqb y v)

-- ascending
unfoldable pub reached_vertices : Direction → ℕ → Table → List ℕ
reached_vertices dir v t = filter (is_other_reached dir t v) (live_vertices t)

-- get_downstream_vertices and get_upstream_vertices: From and To; 1, 3, 11
unfoldable pub reached_result : Direction → ℕ → List ℕ → Table → Result
reached_result dir v out t = on_live_vertex t v out (listed (reached_vertices dir v t) out)
