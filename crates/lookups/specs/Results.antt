-- What each lookup answers and leaves, in the order of its refusals; 1 comes before all by `on_formed`. Assumes nothing.
use Rattle.std.specs.Prelude.{Bool, cond, List, [], ℕ, ltb, length, Ok, Err}
use Rattle.lists.specs.Tests.{bit}
use Rattle.layout.specs.declared.Refusal.TheVariants.{TooFewHyperedges}
use Rattle.layout.specs.Content.{Table}
use Rattle.layout.specs.Answers.{Result, result_of, on_live_vertex, on_live_hyperedges, listed}
use Rattle.lookups.specs.declared.Direction.{Direction}
use Rattle.lookups.specs.declared.Relation.{Relation}
use Rattle.lookups.specs.declared.Listing.{Listing}
use Rattle.lookups.specs.declared.Listing.TheVariants.{Connecting, Weighing, Holding}
use Rattle.lookups.specs.Lookups.{related, shared, degree, listing, full_adjacent, vertices_weighing, has_vertex_weighing}

-- get_adjacent_vertices_from and _to: Along From and Along To; get_vertex_neighborhood: Around; 1, 3, 11
unfoldable pub related_result : Relation → ℕ → List ℕ → Table → Result
related_result rel v out t = on_live_vertex t v out (listed (related rel v t) out)

-- 10: fewer than two hyperedges to intersect
abbrev pub is_few : List ℕ → Bool
is_few xs = ltb (length xs) 2

unfoldable pub on_several : List ℕ → List ℕ → Result → Result
on_several xs lent r = cond (is_few xs) (result_of (Err TooFewHyperedges) lent) r

-- get_hyperedges_intersections: 1, 10, 4, 11
unfoldable pub intersections_result : List ℕ → List ℕ → Table → Result
intersections_result xs out t = on_several xs out (on_live_hyperedges t xs out (listed (shared xs t) out))

-- get_vertex_degree_in and _out: To and From; 1, 3
unfoldable pub degree_result : Direction → ℕ → Table → Result
degree_result dir v t = on_live_vertex t v [] (result_of (Ok (degree dir v t)) [])

-- a listing of hyperedges by a vertex: 3, 11
unfoldable pub listing_result : ℕ → Listing → List ℕ → Table → Result
listing_result v q out t = on_live_vertex t v out (listed (listing q t) out)

-- get_hyperedges_connecting: 1, 3 for the first vertex, 11
abbrev pub connecting_result : ℕ → ℕ → List ℕ → Table → Result
connecting_result x y out t = listing_result x (Connecting x y) out t

-- get_full_vertex_hyperedges: 1, 3, 11
abbrev pub full_hyperedges_result : ℕ → List ℕ → Table → Result
full_hyperedges_result v out t = listing_result v (Holding v) out t

-- get_full_adjacent_vertices_from and _to: From and To; 1, 3, 11
unfoldable pub full_adjacent_result : Direction → ℕ → List ℕ → Table → Result
full_adjacent_result dir v out t = on_live_vertex t v out (listed (full_adjacent dir v t) out)

-- find_hyperedges_by_weight: 1, 11
abbrev pub weighing_result : ℕ → List ℕ → Table → Result
weighing_result w out t = listed (listing (Weighing w) t) out

-- contains_vertex: 1; then yes or no
abbrev pub contains_result : ℕ → Table → Result
contains_result w t = result_of (Ok (bit (has_vertex_weighing w t))) []

-- get_vertex_index: 1, 11
abbrev pub vertex_index_result : ℕ → List ℕ → Table → Result
vertex_index_result w out t = listed (vertices_weighing w t) out
