-- Cases beside the rules' sheets. Assumes nothing.
use Rattle.std.specs.Prelude.{List, [], ◌∷◌, ℕ, Ok, Err}
use Rattle.layout.specs.declared.Refusal.TheVariants.{NoRoom, SameVertex, BadRecord, EqualNeighbours}
use Rattle.layout.specs.Content.{Table, hyperedge_of}
use Rattle.layout.specs.Layout.{limit, words}
use Rattle.layout.specs.Answers.{Result, result_of, vertex_missing, hyperedge_missing}
use Rattle.edits.specs.Results.{add_hyperedge_result, update_result, remove_vertex_result, side_by_side_in, merge_result}
use Rattle.trays.specs.declared.Withdrawal.{Withdrawal}
use Rattle.trays.specs.Trays.{tray_result}
use Rattle.lookups.specs.declared.Direction.TheVariants.{From, To}
use Rattle.lookups.specs.declared.Relation.TheVariants.{Along, Around}
use Rattle.lookups.specs.Results.{related_result, intersections_result, degree_result, connecting_result, full_hyperedges_result, full_adjacent_result, weighing_result, vertex_index_result}
use Rattle.reads.specs.Reads.{vertex_weight_result, hyperedge_weight_result, members_result, vertices_result, hyperedges_result}
use Rattle.traversal.specs.declared.Order.TheVariants.{BreadthFirst, DepthFirst}
use Rattle.traversal.specs.Traversal.{traversal_result, reachable_result}
use Rattle.reached_vertices.specs.Reached.{reached_result}
use Rattle.structural.specs.Sort.{sort_result, acyclic_result}
use Rattle.structural.specs.Components.{connected_result, connected_components_result}
use Rattle.cut.specs.Cut.{cut_vertices_result}
use Rattle.properties.specs.Results.{orphan_vertices_result, endpoints_result, uniform_result}
use Rattle.paths.specs.Paths.{no_number, pair_result, from_result}
use Rattle.sheets.specs.Sheets.{vertex, table, G, K, Loop, Repeated, Left, held, Case, lent, gives}

-- ---- tables

-- no vertex
abbrev pub None : Table
None = table [] []

-- [0,1], [1,2] and [2,3]
abbrev pub Chain : Table
Chain = table (vertex 0 ∷ vertex 1 ∷ vertex 2 ∷ vertex 3 ∷ []) (hyperedge_of 0 0 (0 ∷ 1 ∷ []) ∷ hyperedge_of 1 0 (1 ∷ 2 ∷ []) ∷ hyperedge_of 2 0 (2 ∷ 3 ∷ []) ∷ [])

-- [0,1], [1,2] and [2,0]
abbrev pub Ring : Table
Ring = table (vertex 0 ∷ vertex 1 ∷ vertex 2 ∷ []) (hyperedge_of 0 0 (0 ∷ 1 ∷ []) ∷ hyperedge_of 1 0 (1 ∷ 2 ∷ []) ∷ hyperedge_of 2 0 (2 ∷ 0 ∷ []) ∷ [])

-- [0,1,2] and [2,3,4]
abbrev pub Shared : Table
Shared = table (vertex 0 ∷ vertex 1 ∷ vertex 2 ∷ vertex 3 ∷ vertex 4 ∷ []) (hyperedge_of 0 0 (0 ∷ 1 ∷ 2 ∷ []) ∷ hyperedge_of 1 0 (2 ∷ 3 ∷ 4 ∷ []) ∷ [])

-- only [1,1]
abbrev pub Lone : Table
Lone = table (vertex 0 ∷ vertex 1 ∷ []) (hyperedge_of 0 0 (1 ∷ 1 ∷ []) ∷ [])

-- vertices 1, 3 and 4; [3,1] and [3,4]
abbrev pub Gaps : Table
Gaps = table (vertex 1 ∷ vertex 3 ∷ vertex 4 ∷ []) (hyperedge_of 0 0 (3 ∷ 1 ∷ []) ∷ hyperedge_of 1 0 (3 ∷ 4 ∷ []) ∷ [])

-- only [1,1], and no other vertex
abbrev pub Filtered : Table
Filtered = table (vertex 1 ∷ []) (hyperedge_of 0 0 (1 ∷ 1 ∷ []) ∷ [])

-- [3,1,3], [0,1] and [3,1]
abbrev pub Doubled : Table
Doubled = table (vertex 0 ∷ vertex 1 ∷ vertex 3 ∷ [])
    (hyperedge_of 0 0 (3 ∷ 1 ∷ 3 ∷ []) ∷ hyperedge_of 1 2 (0 ∷ 1 ∷ []) ∷ hyperedge_of 2 2 (3 ∷ 1 ∷ []) ∷ [])

-- the same, 3 merged into 0: each 3 is 0, and of two identical hyperedges both stay
abbrev pub Single : Table
Single = table (vertex 0 ∷ vertex 1 ∷ [])
    (hyperedge_of 0 0 (0 ∷ 1 ∷ 0 ∷ []) ∷ hyperedge_of 1 2 (0 ∷ 1 ∷ []) ∷ hyperedge_of 2 2 (0 ∷ 1 ∷ []) ∷ [])

-- only [2]: what is left of K without 0 and 1
abbrev pub Remnant : Table
Remnant = table (vertex 2 ∷ []) (hyperedge_of 2 0 (2 ∷ []) ∷ [])

-- [0,1] thrice, of weights 2, 1 and 1
abbrev pub Tied : Table
Tied = table (vertex 0 ∷ vertex 1 ∷ []) (hyperedge_of 0 2 (0 ∷ 1 ∷ []) ∷ hyperedge_of 1 1 (0 ∷ 1 ∷ []) ∷ hyperedge_of 2 1 (0 ∷ 1 ∷ []) ∷ [])

-- ---- cases

-- a number or a yes or no, and nothing is lent
abbrev pub answers : ℕ → Result
answers d = result_of (Ok d) []

-- a removed vertex is filtered out at every place
abbrev pub removed-0 : Case
removed-0 = record { given = held Repeated; query = remove_vertex_result 0 (words limit Repeated); answer = result_of (Ok 0) (words limit Filtered) }

-- a merged vertex is read as the other at every place; two of it in a row become two of the other
abbrev pub merged-3 : Case
merged-3 = record { given = held Doubled; query = merge_result 0 3 (words limit Doubled); answer = result_of (Ok 0) (words limit Single) }

abbrev pub merged-row : Case
merged-row = record { given = held Lone; query = merge_result 0 1 (words limit Lone); answer = result_of (Ok 0) (words limit Loop) }

-- side by side, in either order: the lowest such hyperedge; a vertex and itself; one that is not live comes before that
abbrev pub beside-K : Case
beside-K = record { given = held K; query = merge_result 0 1 (words limit K); answer = result_of (side_by_side_in 0) (words limit K) }

abbrev pub beside-G : Case
beside-G = record { given = held G; query = merge_result 2 3 (words limit G); answer = result_of (side_by_side_in 2) (words limit G) }

abbrev pub merged-itself : Case
merged-itself = record { given = held G; query = merge_result 1 1 (words limit G); answer = result_of (Err (SameVertex (record { 0 = 1 }))) (words limit G) }

abbrev pub merged-dead : Case
merged-dead = record { given = held G; query = merge_result 9 9 (words limit G); answer = result_of (vertex_missing 9) (words limit G) }

-- a list with two equal neighbours: the first such vertex, also where it is the last; one that is not live comes before that
abbrev pub twice : ℕ → List ℕ → Result
twice v ws = result_of (Err (EqualNeighbours (record { 0 = v }))) ws

abbrev pub bounced : Case
bounced = record { given = held G; query = add_hyperedge_result (0 ∷ 1 ∷ 1 ∷ 2 ∷ 2 ∷ []) 4 (words limit G); answer = twice 1 (words limit G) }

abbrev pub bounced-last : Case
bounced-last = record { given = held G; query = add_hyperedge_result (0 ∷ 1 ∷ 2 ∷ 2 ∷ []) 4 (words limit G); answer = twice 2 (words limit G) }

abbrev pub bounced-dead : Case
bounced-dead = record { given = held G; query = add_hyperedge_result (0 ∷ 0 ∷ 9 ∷ []) 4 (words limit G); answer = result_of (vertex_missing 9) (words limit G) }

-- before an identical one, and before a hyperedge that is not live
abbrev pub bounced-identical : Case
bounced-identical = record { given = held Loop; query = add_hyperedge_result (0 ∷ 0 ∷ []) 0 (words limit Loop); answer = twice 0 (words limit Loop) }

abbrev pub bounced-update : Case
bounced-update = record { given = held G; query = update_result 9 (3 ∷ 3 ∷ []) (words limit G); answer = twice 3 (words limit G) }

-- a vertex may stand in a list again, further on: here the list is that of hyperedge 1
abbrev pub again-further : Case
again-further = record { given = held K; query = add_hyperedge_result (0 ∷ 1 ∷ 0 ∷ []) 0 (words limit K); answer = result_of (Ok 1) (words limit K) }

-- records of a tray
abbrev pub vertex_record : ℕ → Withdrawal
vertex_record v = record { kind = 0; number = v }

abbrev pub hyperedge_record : ℕ → Withdrawal
hyperedge_record x = record { kind = 1; number = x }

-- a tray on K without 0 and 1: hyperedge 0 is emptied by then, and hyperedge 1 before; repeats change nothing
abbrev pub tray-emptied : Case
tray-emptied = record {
  given = held K;
  query = tray_result (vertex_record 0 ∷ vertex_record 1 ∷ hyperedge_record 0 ∷ []) (words limit K);
  answer = result_of (Ok 0) (words limit Remnant);
}

abbrev pub tray-repeated : Case
tray-repeated = record {
  given = held K;
  query = tray_result (hyperedge_record 1 ∷ vertex_record 1 ∷ hyperedge_record 1 ∷ vertex_record 0 ∷ vertex_record 1 ∷ []) (words limit K);
  answer = result_of (Ok 0) (words limit Remnant);
}

-- no records: done, and nothing changes
abbrev pub tray-empty : Case
tray-empty = record { given = held G; query = tray_result [] (words limit G); answer = result_of (Ok 0) (words limit G) }

-- the first record of another kind or not live, from 0: kind 2; vertex 9; hyperedge 3, though vertex 3 is live
abbrev pub tray-kind : Case
tray-kind = record {
  given = held G;
  query = tray_result (vertex_record 0 ∷ record { kind = 2; number = 0 } ∷ []) (words limit G);
  answer = result_of (Err (BadRecord 1)) (words limit G);
}

abbrev pub tray-dead : Case
tray-dead = record {
  given = held G;
  query = tray_result (hyperedge_record 2 ∷ vertex_record 9 ∷ vertex_record 0 ∷ vertex_record 9 ∷ []) (words limit G);
  answer = result_of (Err (BadRecord 1)) (words limit G);
}

abbrev pub tray-other : Case
tray-other = record { given = held G; query = tray_result (hyperedge_record 3 ∷ []) (words limit G); answer = result_of (Err (BadRecord 0)) (words limit G) }

-- adjacent vertices and neighbourhoods
abbrev pub after-0 : Case
after-0 = record { given = held G; query = related_result (Along From) 0 (lent 2); answer = gives (1 ∷ 3 ∷ []) }

abbrev pub before-2 : Case
before-2 = record { given = held G; query = related_result (Along To) 2 (lent 2); answer = gives (1 ∷ 3 ∷ []) }

abbrev pub around-2 : Case
around-2 = record { given = held G; query = related_result Around 2 (lent 3); answer = gives (0 ∷ 1 ∷ 3 ∷ []) }

abbrev pub around-4 : Case
around-4 = record { given = held G; query = related_result Around 4 (lent 0); answer = gives [] }

-- each adjacent vertex, its count, its hyperedges
abbrev pub full-after-0 : Case
full-after-0 = record { given = held G; query = full_adjacent_result From 0 (lent 6); answer = gives (1 ∷ 1 ∷ 0 ∷ 3 ∷ 1 ∷ 1 ∷ []) }

abbrev pub full-before-1 : Case
full-before-1 = record { given = held K; query = full_adjacent_result To 1 (lent 5); answer = gives (0 ∷ 3 ∷ 0 ∷ 1 ∷ 2 ∷ []) }

abbrev pub full-repeated : Case
full-repeated = record { given = held Repeated; query = full_adjacent_result From 0 (lent 4); answer = gives (1 ∷ 2 ∷ 0 ∷ 0 ∷ []) }

-- degrees count every place: in K each list steps from 0 once, and to 1 once
abbrev pub out-of-0 : Case
out-of-0 = record { given = held K; query = degree_result From 0; answer = answers 3 }

abbrev pub into-1 : Case
into-1 = record { given = held K; query = degree_result To 1; answer = answers 3 }

-- each of the three lists has the step once
abbrev pub connecting-K : Case
connecting-K = record { given = held K; query = connecting_result 0 1 (lent 3); answer = gives (0 ∷ 1 ∷ 2 ∷ []) }

-- a second vertex that is not live gives an empty answer
abbrev pub connecting-none : Case
connecting-none = record { given = held G; query = connecting_result 0 9 (lent 0); answer = gives [] }

-- by weight, by vertex; a list to intersect may name a hyperedge twice
abbrev pub weighing-2 : Case
weighing-2 = record { given = held G; query = weighing_result 2 (lent 1); answer = gives (2 ∷ []) }

abbrev pub index-3 : Case
index-3 = record { given = held G; query = vertex_index_result 3 (lent 1); answer = gives (3 ∷ []) }

abbrev pub holding-3 : Case
holding-3 = record { given = held G; query = full_hyperedges_result 3 (lent 6); answer = gives (2 ∷ 0 ∷ 3 ∷ 2 ∷ 3 ∷ 2 ∷ []) }

abbrev pub intersecting : Case
intersecting = record { given = held G; query = intersections_result (0 ∷ 2 ∷ []) (lent 1); answer = gives (2 ∷ []) }

abbrev pub intersecting-twice : Case
intersecting-twice = record { given = held G; query = intersections_result (1 ∷ 1 ∷ []) (lent 2); answer = gives (0 ∷ 3 ∷ []) }

-- 1 and 3 are one step from 0, and 2 is two; depth first 1 leads to 2 before 3 is visited
abbrev pub breadth-first : Case
breadth-first = record { given = held G; query = traversal_result BreadthFirst 0 (lent 4); answer = gives (0 ∷ 1 ∷ 3 ∷ 2 ∷ []) }

abbrev pub depth-first : Case
depth-first = record { given = held G; query = traversal_result DepthFirst 0 (lent 4); answer = gives (0 ∷ 1 ∷ 2 ∷ 3 ∷ []) }

abbrev pub reached-2 : Case
reached-2 = record { given = held G; query = reachable_result 3 2; answer = answers 1 }

abbrev pub not_back : Case
not_back = record { given = held G; query = reachable_result 2 3; answer = answers 0 }

abbrev pub reached-itself : Case
reached-itself = record { given = held G; query = reachable_result 4 4; answer = answers 1 }

-- all that lead to 2, and all that 0 leads to; in a ring every other vertex, and never the vertex itself
abbrev pub upstream-2 : Case
upstream-2 = record { given = held G; query = reached_result To 2 (lent 3); answer = gives (0 ∷ 1 ∷ 3 ∷ []) }

abbrev pub downstream-0 : Case
downstream-0 = record { given = held G; query = reached_result From 0 (lent 3); answer = gives (1 ∷ 2 ∷ 3 ∷ []) }

abbrev pub upstream-ring : Case
upstream-ring = record { given = held Ring; query = reached_result To 1 (lent 2); answer = gives (0 ∷ 2 ∷ []) }

abbrev pub downstream-loop : Case
downstream-loop = record { given = held Loop; query = reached_result From 0 (lent 0); answer = gives [] }

-- weights, by number and not by record; members in their order, with repeats; the live numbers
abbrev pub weight-3 : Case
weight-3 = record { given = held Gaps; query = vertex_weight_result 3; answer = answers 3 }

abbrev pub weight-dead : Case
weight-dead = record { given = held Gaps; query = vertex_weight_result 2; answer = result_of (vertex_missing 2) [] }

abbrev pub cost-2 : Case
cost-2 = record { given = held Left; query = hyperedge_weight_result 2; answer = answers 2 }

abbrev pub cost-dead : Case
cost-dead = record { given = held Left; query = hyperedge_weight_result 1; answer = result_of (hyperedge_missing 1) [] }

abbrev pub members-0 : Case
members-0 = record { given = held Doubled; query = members_result 0 (lent 3); answer = gives (3 ∷ 1 ∷ 3 ∷ []) }

abbrev pub members-no-room : Case
members-no-room = record { given = held Doubled; query = members_result 0 (lent 2); answer = result_of (Err (NoRoom 3)) (lent 2) }

abbrev pub all-vertices : Case
all-vertices = record { given = held Gaps; query = vertices_result (lent 3); answer = gives (1 ∷ 3 ∷ 4 ∷ []) }

abbrev pub all-hyperedges : Case
all-hyperedges = record { given = held Left; query = hyperedges_result (lent 2); answer = gives (0 ∷ 2 ∷ []) }

-- what is lent beyond the answer is kept; without room nothing is written
abbrev pub sort-kept : Case
sort-kept = record { given = held G; query = sort_result (9 ∷ 9 ∷ 9 ∷ 9 ∷ 9 ∷ 9 ∷ []); answer = result_of (Ok 5) (0 ∷ 1 ∷ 3 ∷ 2 ∷ 4 ∷ 9 ∷ []) }

abbrev pub sort-no-room : Case
sort-no-room = record { given = held G; query = sort_result (9 ∷ 9 ∷ 9 ∷ 9 ∷ []); answer = result_of (Err (NoRoom 5)) (9 ∷ 9 ∷ 9 ∷ 9 ∷ []) }

abbrev pub acyclic-G : Case
acyclic-G = record { given = held G; query = acyclic_result; answer = answers 1 }

abbrev pub acyclic-loop : Case
acyclic-loop = record { given = held Loop; query = acyclic_result; answer = answers 0 }

-- 0 to 3 are linked, and 4 is alone
abbrev pub components : Case
components = record { given = held G; query = connected_components_result (lent 7); answer = gives (4 ∷ 0 ∷ 1 ∷ 2 ∷ 3 ∷ 1 ∷ 4 ∷ []) }

abbrev pub components-no-room : Case
components-no-room = record { given = held G; query = connected_components_result (lent 6); answer = result_of (Err (NoRoom 7)) (lent 6) }

abbrev pub not-connected : Case
not-connected = record { given = held G; query = connected_result; answer = answers 0 }

-- a lone vertex is both a source and a sink; one that steps to itself alone is neither
abbrev pub orphans : Case
orphans = record { given = held G; query = orphan_vertices_result (lent 1); answer = gives (4 ∷ []) }

abbrev pub ends : Case
ends = record { given = held G; query = endpoints_result (lent 6); answer = gives (2 ∷ 0 ∷ 4 ∷ 2 ∷ 2 ∷ 4 ∷ []) }

abbrev pub no-ends : Case
no-ends = record { given = held Loop; query = endpoints_result (lent 2); answer = gives (0 ∷ 0 ∷ []) }

-- repeats are counted; with no hyperedges the answer is yes
abbrev pub uniform-loop : Case
uniform-loop = record { given = held Loop; query = uniform_result 2; answer = answers 1 }

abbrev pub uniform-K : Case
uniform-K = record { given = held K; query = uniform_result 2; answer = answers 0 }

abbrev pub uniform-none : Case
uniform-none = record { given = held None; query = uniform_result 7; answer = answers 1 }

-- a chain: all but its ends; a ring: none; two lists that share 2; a vertex that stands in a list alone and twice; numbers with gaps
abbrev pub cut-chain : Case
cut-chain = record { given = held Chain; query = cut_vertices_result (lent 2); answer = gives (1 ∷ 2 ∷ []) }

abbrev pub cut-ring : Case
cut-ring = record { given = held Ring; query = cut_vertices_result (lent 0); answer = gives [] }

abbrev pub cut-shared : Case
cut-shared = record { given = held Shared; query = cut_vertices_result (lent 1); answer = gives (2 ∷ []) }

abbrev pub cut-lone : Case
cut-lone = record { given = held Lone; query = cut_vertices_result (lent 0); answer = gives [] }

abbrev pub cut-gaps : Case
cut-gaps = record { given = held Gaps; query = cut_vertices_result (lent 1); answer = gives (3 ∷ []) }

-- the costs from 0; of least-weight hyperedges the lowest number
abbrev pub costs-from-0 : Case
costs-from-0 = record { given = held G; query = from_result 0 (lent 12); answer = gives (0 ∷ 0 ∷ 0 ∷ 1 ∷ 4 ∷ 0 ∷ 2 ∷ 3 ∷ 0 ∷ 3 ∷ 1 ∷ 0 ∷ []) }

abbrev pub tie : Case
tie = record { given = held Tied; query = pair_result 0 1 (lent 7); answer = gives (1 ∷ 0 ∷ 2 ∷ 0 ∷ no_number ∷ 1 ∷ 1 ∷ []) }

-- all of them
abbrev pub more : List Case
more =
    removed-0 ∷ merged-3 ∷ merged-row ∷ beside-K ∷ beside-G ∷ merged-itself ∷ merged-dead
    ∷ bounced ∷ bounced-last ∷ bounced-dead ∷ bounced-identical ∷ bounced-update ∷ again-further
    ∷ tray-emptied ∷ tray-repeated ∷ tray-empty ∷ tray-kind ∷ tray-dead ∷ tray-other
    ∷ after-0 ∷ before-2 ∷ around-2 ∷ around-4 ∷ full-after-0 ∷ full-before-1
    ∷ full-repeated ∷ out-of-0 ∷ into-1 ∷ connecting-K ∷ connecting-none ∷ weighing-2
    ∷ index-3 ∷ holding-3 ∷ intersecting ∷ intersecting-twice ∷ breadth-first ∷ depth-first
    ∷ upstream-2 ∷ downstream-0 ∷ upstream-ring ∷ downstream-loop ∷ weight-3 ∷ weight-dead
    ∷ cost-2 ∷ cost-dead ∷ members-0 ∷ members-no-room ∷ all-vertices ∷ all-hyperedges
    ∷ reached-2 ∷ not_back ∷ reached-itself ∷ sort-kept ∷ sort-no-room ∷ acyclic-G
    ∷ acyclic-loop ∷ components ∷ components-no-room ∷ not-connected ∷ orphans ∷ ends
    ∷ no-ends ∷ uniform-loop ∷ uniform-K ∷ uniform-none ∷ cut-chain ∷ cut-ring
    ∷ cut-shared ∷ cut-lone ∷ cut-gaps ∷ costs-from-0 ∷ tie ∷ []
