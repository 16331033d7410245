-- Traversal: what a search from a vertex lists, and which vertices are reached. Assumes nothing.
use Rattle.std.specs.Prelude.{Bool, List, [], ◌∷◌, map, ℕ, length, Ok}
use Rattle.lists.specs.Tests.{bit}
use Rattle.lists.specs.Lists.{memb}
use Rattle.layout.specs.Content.{Table, live_vertices, position, place}
use Rattle.layout.specs.Answers.{Result, result_of, on_live_vertex, on_live_vertices, listed}
use Rattle.graph.specs.Bfs.{bfs}
use Rattle.depth.specs.Pre.{preorder}
use Rattle.steps.specs.Matrices.{number_of, steps_between}
use Rattle.traversal.specs.declared.Order.{Order}
use Rattle.traversal.specs.declared.Order.TheVariants.{BreadthFirst, DepthFirst}

-- what a search over a relation between the records below n lists, from a record; smallest neighbour first, as the records ascend by number
abbrev pub search_of : Order → (ℕ → ℕ → Bool) → ℕ → ℕ → List ℕ
search_of BreadthFirst E n i = bfs E n i
search_of DepthFirst E n i = preorder E n i

-- along the steps, from record i: the numbers of the records
unfoldable pub list_from : Order → Table → ℕ → List ℕ
list_from how t i = map (number_of t) (search_of how (steps_between t) (length (live_vertices t)) i)

-- from a live vertex
unfoldable pub traversal : Order → Table → ℕ → List ℕ
traversal how t x = list_from how t (place (position x (live_vertices t)))

-- y is reached from x
unfoldable pub reachable : Table → ℕ → ℕ → Bool
reachable t x y = memb y (traversal BreadthFirst t x)

-- get_bfs and get_dfs: 1, 3, 11
unfoldable pub traversal_result : Order → ℕ → List ℕ → Table → Result
traversal_result how v lent t = on_live_vertex t v lent (listed (traversal how t v) lent)

-- is_reachable: 1, 3 for the first vertex, 3 for the second; then yes or no
unfoldable pub reachable_result : ℕ → ℕ → Table → Result
reachable_result x y t = on_live_vertices t (x ∷ y ∷ []) [] (result_of (Ok (bit (reachable t x y))) [])
