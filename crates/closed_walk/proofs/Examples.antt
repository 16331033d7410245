-- Closed walks that are named, computed. Assumes nothing.
use mathlib.Core.Path.{◌≡◌, refl}
use mathlib.Core.List.{List, [], ◌∷◌}
use Prim.Native.Nat.{ℕ}
use Rattle.lists.specs.Tests.{◌and◌}
use Rattle.lists.specs.Lists.{any}
use Rattle.layout.specs.Content.{vertex_of, hyperedge_of, Table}
use Rattle.layout.specs.Steps.{steps_of, is_step, makes_step, has_step}
use Rattle.graph.specs.Bfs.{push, spread, run, bfs}
use Rattle.order.specs.Least.{least}
use Rattle.rings.specs.Search.{leads_to, before, comes_back, lowest, up_through, go_back, ring_of}
use Rattle.closed_walk.specs.Named.{closed_walk}

-- vertices 2, 4, 6 and 8, and one hyperedge with these members
listing : List ℕ → Table
listing ms = record {
  next_vertex = 9;
  next_hyperedge = 1;
  vertices = vertex_of 2 0 ∷ vertex_of 4 0 ∷ vertex_of 6 0 ∷ vertex_of 8 0 ∷ [];
  hyperedges = hyperedge_of 0 0 ms ∷ [];
}

-- no closed walk; a vertex with a step to itself; three vertices; two vertices, though 8 lies on a closed walk too
named : (closed_walk (listing (2 ∷ 4 ∷ 6 ∷ [])) ≡ [])
    × (closed_walk (listing (2 ∷ 4 ∷ 4 ∷ 6 ∷ [])) ≡ 4 ∷ [])
    × (closed_walk (listing (2 ∷ 6 ∷ 4 ∷ 2 ∷ 8 ∷ [])) ≡ 6 ∷ 4 ∷ 2 ∷ [])
    × (closed_walk (listing (8 ∷ 4 ∷ 6 ∷ 4 ∷ 8 ∷ [])) ≡ 6 ∷ 4 ∷ [])
unfolding listing closed_walk ring_of go_back up_through lowest comes_back before leads_to least bfs run spread push has_step makes_step steps_of is_step any ◌and◌
named = (refl, refl, refl, refl)
