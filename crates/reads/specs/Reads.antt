-- What each plain read answers and leaves, in the order of its refusals; 1 comes before all by `on_formed`. Assumes nothing.
use Rattle.std.specs.Prelude.{List, [], ℕ, get_or, Ok}
use Rattle.layout.specs.Content.{Table, live_vertices, live_hyperedges, no_vertex, no_hyperedge, position, place}
use Rattle.layout.specs.Answers.{Result, result_of, on_live_vertex, on_live_hyperedge, listed}
use Rattle.edits.specs.Results.{members_of}

-- the weight of the vertex of number v, and of the hyperedge of number e
unfoldable pub vertex_weight : ℕ → Table → ℕ
vertex_weight v t = (get_or t.vertices (place (position v (live_vertices t))) no_vertex).weight

unfoldable pub hyperedge_weight : ℕ → Table → ℕ
hyperedge_weight e t = (get_or t.hyperedges (place (position e (live_hyperedges t))) no_hyperedge).weight

-- get_vertex_weight: 1, 3; the detail is the weight
unfoldable pub vertex_weight_result : ℕ → Table → Result
vertex_weight_result v t = on_live_vertex t v [] (result_of (Ok (vertex_weight v t)) [])

-- get_hyperedge_weight: 1, 4; the detail is the weight
unfoldable pub hyperedge_weight_result : ℕ → Table → Result
hyperedge_weight_result e t = on_live_hyperedge t e [] (result_of (Ok (hyperedge_weight e t)) [])

-- get_hyperedge_vertices: 1, 4, 11; the members in their order
unfoldable pub members_result : ℕ → List ℕ → Table → Result
members_result e out t = on_live_hyperedge t e out (listed (members_of e t.hyperedges) out)

-- get_vertices: 1, 11; the live numbers, ascending
abbrev pub vertices_result : List ℕ → Table → Result
vertices_result out t = listed (live_vertices t) out

-- get_hyperedges: 1, 11; the live numbers, ascending
abbrev pub hyperedges_result : List ℕ → Table → Result
hyperedges_result out t = listed (live_hyperedges t) out
