-- Any two results that keep an entry point's promise on the same input agree, for every entry point. Each theorem is about the reading
-- that the check itself makes of the function's contract. Assumes nothing.
use mathlib.Core.Path.{◌≡◌, refl, sym, ap₂, ◌∙◌}
use mathlib.Core.List.{[]}
use Prim.Native.Nat.{ℕ}
use seplogic.Ra.Ura.{Ura}
use base.Logic.{SProp}
use prog.Memory.{Memory}
use prog.Routine.{Routine}
use types.Logic.{Logic}
use contract.Monad.{Fun}
use Rattle.layout.specs.Answers.{result_of, on_formed}
use Rattle.layout.proofs.Answers.{agree}
use Rattle.trays.specs.Trays.{tray_result}
use Rattle.agreement.specs.Agreement.{Agrees, Promise, IsContract, AgreesBy}
use Rattle.well_formed.proofs.well_formed.Kinds as well-formed
use Rattle.well_formed.proofs.well_formed.Reads as well-formed-reads
use Rattle.layout.proofs.ReplyFromAnswer.from.Kinds as reply-of
use Rattle.layout.proofs.ReplyFromAnswer.from.Reads as reply-of-reads
use Rattle.add_vertex.proofs.add_vertex.Kinds as add-vertex
use Rattle.add_vertex.proofs.add_vertex.Reads as add-vertex-reads
use Rattle.add_hyperedge.proofs.add_hyperedge.Kinds as add-hyperedge
use Rattle.add_hyperedge.proofs.add_hyperedge.Reads as add-hyperedge-reads
use Rattle.update_hyperedge_vertices.proofs.update_hyperedge_vertices.Kinds as update-hyperedge-vertices
use Rattle.update_hyperedge_vertices.proofs.update_hyperedge_vertices.Reads as update-hyperedge-vertices-reads
use Rattle.remove_vertex.proofs.remove_vertex.Kinds as remove-vertex
use Rattle.remove_vertex.proofs.remove_vertex.Reads as remove-vertex-reads
use Rattle.merge_vertices.proofs.merge_vertices.Kinds as merge-vertices
use Rattle.merge_vertices.proofs.merge_vertices.Reads as merge-vertices-reads
use Rattle.withdraw_tray.specs.contracts.withdraw_tray as withdraw-tray
use Rattle.remove_hyperedge.proofs.remove_hyperedge.Kinds as remove-hyperedge
use Rattle.remove_hyperedge.proofs.remove_hyperedge.Reads as remove-hyperedge-reads
use Rattle.hypergraph.proofs.clear.Kinds as clear
use Rattle.hypergraph.proofs.clear.Reads as clear_reads
use Rattle.hypergraph.proofs.is_empty.Kinds as is-empty
use Rattle.hypergraph.proofs.is_empty.Reads as is-empty-reads
use Rattle.adjacent.proofs.get_adjacent_vertices_from.Kinds as get-adjacent-vertices-from
use Rattle.adjacent.proofs.get_adjacent_vertices_from.Reads as get-adjacent-vertices-from-reads
use Rattle.adjacent.proofs.get_adjacent_vertices_to.Kinds as get-adjacent-vertices-to
use Rattle.adjacent.proofs.get_adjacent_vertices_to.Reads as get-adjacent-vertices-to-reads
use Rattle.full_adjacent.proofs.get_full_adjacent_vertices_from.Kinds as get-full-adjacent-vertices-from
use Rattle.full_adjacent.proofs.get_full_adjacent_vertices_from.Reads as get-full-adjacent-vertices-from-reads
use Rattle.full_adjacent.proofs.get_full_adjacent_vertices_to.Kinds as get-full-adjacent-vertices-to
use Rattle.full_adjacent.proofs.get_full_adjacent_vertices_to.Reads as get-full-adjacent-vertices-to-reads
use Rattle.degrees.proofs.get_vertex_degree_in.Kinds as get-vertex-degree-in
use Rattle.degrees.proofs.get_vertex_degree_in.Reads as get-vertex-degree-in-reads
use Rattle.degrees.proofs.get_vertex_degree_out.Kinds as get-vertex-degree-out
use Rattle.degrees.proofs.get_vertex_degree_out.Reads as get-vertex-degree-out-reads
use Rattle.hyperedge_listings.proofs.get_hyperedges_connecting.Kinds as get-hyperedges-connecting
use Rattle.hyperedge_listings.proofs.get_hyperedges_connecting.Reads as get-hyperedges-connecting-reads
use Rattle.intersections.proofs.get_hyperedges_intersections.Kinds as get-hyperedges-intersections
use Rattle.intersections.proofs.get_hyperedges_intersections.Reads as get-hyperedges-intersections-reads
use Rattle.hyperedge_listings.proofs.find_hyperedges_by_weight.Kinds as find-hyperedges-by-weight
use Rattle.hyperedge_listings.proofs.find_hyperedges_by_weight.Reads as find-hyperedges-by-weight-reads
use Rattle.hyperedge_listings.proofs.get_full_vertex_hyperedges.Kinds as get-full-vertex-hyperedges
use Rattle.hyperedge_listings.proofs.get_full_vertex_hyperedges.Reads as get-full-vertex-hyperedges-reads
use Rattle.vertex_weights.proofs.contains_vertex.Kinds as contains-vertex
use Rattle.vertex_weights.proofs.contains_vertex.Reads as contains-vertex-reads
use Rattle.adjacent.proofs.get_vertex_neighborhood.Kinds as get-vertex-neighborhood
use Rattle.adjacent.proofs.get_vertex_neighborhood.Reads as get-vertex-neighborhood-reads
use Rattle.vertex_weights.proofs.get_vertex_index.Kinds as get-vertex-index
use Rattle.vertex_weights.proofs.get_vertex_index.Reads as get-vertex-index-reads
use Rattle.reads.proofs.get_vertex_weight.Kinds as get-vertex-weight
use Rattle.reads.proofs.get_vertex_weight.Reads as get-vertex-weight-reads
use Rattle.reads.proofs.get_hyperedge_weight.Kinds as get-hyperedge-weight
use Rattle.reads.proofs.get_hyperedge_weight.Reads as get-hyperedge-weight-reads
use Rattle.reads.proofs.get_hyperedge_vertices.Kinds as get-hyperedge-vertices
use Rattle.reads.proofs.get_hyperedge_vertices.Reads as get-hyperedge-vertices-reads
use Rattle.reads.proofs.get_vertices.Kinds as get-vertices
use Rattle.reads.proofs.get_vertices.Reads as get-vertices-reads
use Rattle.reads.proofs.get_hyperedges.Kinds as get-hyperedges
use Rattle.reads.proofs.get_hyperedges.Reads as get-hyperedges-reads
use Rattle.traversal.proofs.get_bfs.Kinds as get-bfs
use Rattle.traversal.proofs.get_bfs.Reads as get-bfs-reads
use Rattle.traversal.proofs.get_dfs.Kinds as get-dfs
use Rattle.traversal.proofs.get_dfs.Reads as get-dfs-reads
use Rattle.traversal.proofs.is_reachable.Kinds as is-reachable
use Rattle.traversal.proofs.is_reachable.Reads as is-reachable-reads
use Rattle.reached_vertices.proofs.get_upstream_vertices.Kinds as get-upstream-vertices
use Rattle.reached_vertices.proofs.get_upstream_vertices.Reads as get-upstream-vertices-reads
use Rattle.reached_vertices.proofs.get_downstream_vertices.Kinds as get-downstream-vertices
use Rattle.reached_vertices.proofs.get_downstream_vertices.Reads as get-downstream-vertices-reads
use Rattle.component_listings.proofs.is_connected.Kinds as is-connected
use Rattle.component_listings.proofs.is_connected.Reads as is-connected-reads
use Rattle.topological_sort.proofs.is_acyclic.Kinds as is-acyclic
use Rattle.topological_sort.proofs.is_acyclic.Reads as is-acyclic-reads
use Rattle.component_listings.proofs.get_transitive_closure.Kinds as get-transitive-closure
use Rattle.component_listings.proofs.get_transitive_closure.Reads as get-transitive-closure-reads
use Rattle.topological_sort.proofs.topological_sort.Kinds as topological-sort
use Rattle.topological_sort.proofs.topological_sort.Reads as topological-sort-reads
use Rattle.component_listings.proofs.strongly_connected_components.Kinds as strongly-connected-components
use Rattle.component_listings.proofs.strongly_connected_components.Reads as strongly-connected-components-reads
use Rattle.component_listings.proofs.connected_components.Kinds as connected-components
use Rattle.component_listings.proofs.connected_components.Reads as connected-components-reads
use Rattle.orphans.proofs.get_orphan_vertices.Kinds as get-orphan-vertices
use Rattle.orphans.proofs.get_orphan_vertices.Reads as get-orphan-vertices-reads
use Rattle.properties.proofs.get_orphan_hyperedges.Kinds as get-orphan-hyperedges
use Rattle.properties.proofs.get_orphan_hyperedges.Reads as get-orphan-hyperedges-reads
use Rattle.orphans.proofs.get_endpoints.Kinds as get-endpoints
use Rattle.orphans.proofs.get_endpoints.Reads as get-endpoints-reads
use Rattle.inclusions.proofs.get_inclusions.Kinds as get-inclusions
use Rattle.inclusions.proofs.get_inclusions.Reads as get-inclusions-reads
use Rattle.properties.proofs.find_cut_vertices.Kinds as find-cut-vertices
use Rattle.properties.proofs.find_cut_vertices.Reads as find-cut-vertices-reads
use Rattle.nestedness.proofs.get_nestedness_profile.Kinds as get-nestedness-profile
use Rattle.nestedness.proofs.get_nestedness_profile.Reads as get-nestedness-profile-reads
use Rattle.properties.proofs.is_k_uniform.Kinds as is-k-uniform
use Rattle.properties.proofs.is_k_uniform.Reads as is-k-uniform-reads
use Rattle.dijkstra_connections.proofs.get_dijkstra_connections_with_cost.Kinds as get-dijkstra-connections-with-cost
use Rattle.dijkstra_connections.proofs.get_dijkstra_connections_with_cost.Reads as get-dijkstra-connections-with-cost-reads
use Rattle.dijkstra_from.proofs.get_dijkstra_from.Kinds as get-dijkstra-from
use Rattle.dijkstra_from.proofs.get_dijkstra_from.Reads as get-dijkstra-from-reads
use Rattle.random_walk.proofs.random_walk.Kinds as random-walk
use Rattle.random_walk.proofs.random_walk.Reads as random-walk-reads
use Rattle.write_frames.proofs.write_frames.Kinds as write-frames
use Rattle.write_frames.proofs.write_frames.Reads as write-frames-reads
use Rattle.read_frames.proofs.read_frames.Kinds as read-frames
use Rattle.read_frames.proofs.read_frames.Reads as read-frames-reads

-- ---- the test of a table, and an answer's number and detail

pub well-formed-agrees : Agrees 1 well-formed.ps well-formed.r well-formed-reads.Post (λ _ _. [])
well-formed-agrees κs args a b x y p q = (p ∙ sym q, refl)

pub reply-of-agrees : Agrees 0 reply-of.ps reply-of.r reply-of-reads.Post (λ _ _. [])
reply-of-agrees κs args a b x y p q =
    (ap₂ (λ (n d : ℕ). record { number = n; detail = d }) (p.0 ∙ sym q.0) (p.1 ∙ sym q.1), refl)

-- ---- edits

pub add-vertex-agrees : Agrees 1 add-vertex.ps add-vertex.r add-vertex-reads.Post (λ _ x. x.0.now)
add-vertex-agrees κs args a b x y p q = agree _ p q

pub add-hyperedge-agrees : Agrees 2 add-hyperedge.ps add-hyperedge.r add-hyperedge-reads.Post (λ _ x. x.0.now)
add-hyperedge-agrees κs args a b x y p q = agree _ p q

pub update-hyperedge-vertices-agrees : Agrees 2 update-hyperedge-vertices.ps update-hyperedge-vertices.r update-hyperedge-vertices-reads.Post (λ _ x. x.0.now)
update-hyperedge-vertices-agrees κs args a b x y p q = agree _ p q

pub remove-vertex-agrees : Agrees 1 remove-vertex.ps remove-vertex.r remove-vertex-reads.Post (λ _ x. x.0.now)
remove-vertex-agrees κs args a b x y p q = agree _ p q

pub merge-vertices-agrees : Agrees 1 merge-vertices.ps merge-vertices.r merge-vertices-reads.Post (λ _ x. x.0.now)
merge-vertices-agrees κs args a b x y p q = agree _ p q

pub remove-hyperedge-agrees : Agrees 1 remove-hyperedge.ps remove-hyperedge.r remove-hyperedge-reads.Post (λ _ x. x.0.now)
remove-hyperedge-agrees κs args a b x y p q = agree _ p q

-- a tray: the promise, that it is the contract, and that it determines the result
abbrev tray-promise : Promise withdraw-tray.ended
tray-promise κs args r x = result_of r x.0.now ≡ on_formed args.0.now args.0.now (tray_result args.1.0.now args.0.now)

pub withdraw-tray-read : {M : Type 1} {𝓤 : Ura M} (𝓛 : Logic 𝓤) (mem : Memory → SProp 𝓤) (run : Routine → Fun 𝓤)
    → IsContract 𝓤 withdraw-tray.ended (withdraw-tray.clauses 𝓛 mem run) tray-promise
withdraw-tray-read 𝓛 mem run κs args = refl

pub withdraw-tray-agrees : AgreesBy withdraw-tray.ended tray-promise (λ _ x. x.0.now)
withdraw-tray-agrees κs args a b x y p q = agree _ p q

pub clear-agrees : Agrees 1 clear.ps clear.r clear_reads.Post (λ _ x. x.0.now)
clear-agrees κs args a b x y p q = agree _ p q

pub is-empty-agrees : Agrees 1 is-empty.ps is-empty.r is-empty-reads.Post (λ _ _. [])
is-empty-agrees κs args a b x y p q = agree _ p q

-- ---- lookups

pub get-adjacent-vertices-from-agrees : Agrees 2 get-adjacent-vertices-from.ps get-adjacent-vertices-from.r get-adjacent-vertices-from-reads.Post (λ _ x. x.1.1.0.now)
get-adjacent-vertices-from-agrees κs args a b x y p q = agree _ p q

pub get-adjacent-vertices-to-agrees : Agrees 2 get-adjacent-vertices-to.ps get-adjacent-vertices-to.r get-adjacent-vertices-to-reads.Post (λ _ x. x.1.1.0.now)
get-adjacent-vertices-to-agrees κs args a b x y p q = agree _ p q

pub get-full-adjacent-vertices-from-agrees : Agrees 2 get-full-adjacent-vertices-from.ps get-full-adjacent-vertices-from.r get-full-adjacent-vertices-from-reads.Post (λ _ x. x.1.1.0.now)
get-full-adjacent-vertices-from-agrees κs args a b x y p q = agree _ p q

pub get-full-adjacent-vertices-to-agrees : Agrees 2 get-full-adjacent-vertices-to.ps get-full-adjacent-vertices-to.r get-full-adjacent-vertices-to-reads.Post (λ _ x. x.1.1.0.now)
get-full-adjacent-vertices-to-agrees κs args a b x y p q = agree _ p q

pub get-vertex-degree-in-agrees : Agrees 1 get-vertex-degree-in.ps get-vertex-degree-in.r get-vertex-degree-in-reads.Post (λ _ _. [])
get-vertex-degree-in-agrees κs args a b x y p q = agree _ p q

pub get-vertex-degree-out-agrees : Agrees 1 get-vertex-degree-out.ps get-vertex-degree-out.r get-vertex-degree-out-reads.Post (λ _ _. [])
get-vertex-degree-out-agrees κs args a b x y p q = agree _ p q

pub get-hyperedges-connecting-agrees : Agrees 2 get-hyperedges-connecting.ps get-hyperedges-connecting.r get-hyperedges-connecting-reads.Post (λ _ x. x.1.1.1.0.now)
get-hyperedges-connecting-agrees κs args a b x y p q = agree _ p q

pub get-hyperedges-intersections-agrees : Agrees 3 get-hyperedges-intersections.ps get-hyperedges-intersections.r get-hyperedges-intersections-reads.Post (λ _ x. x.1.1.0.now)
get-hyperedges-intersections-agrees κs args a b x y p q = agree _ p q

pub find-hyperedges-by-weight-agrees : Agrees 2 find-hyperedges-by-weight.ps find-hyperedges-by-weight.r find-hyperedges-by-weight-reads.Post (λ _ x. x.1.1.0.now)
find-hyperedges-by-weight-agrees κs args a b x y p q = agree _ p q

pub get-full-vertex-hyperedges-agrees : Agrees 2 get-full-vertex-hyperedges.ps get-full-vertex-hyperedges.r get-full-vertex-hyperedges-reads.Post (λ _ x. x.1.1.0.now)
get-full-vertex-hyperedges-agrees κs args a b x y p q = agree _ p q

pub contains-vertex-agrees : Agrees 1 contains-vertex.ps contains-vertex.r contains-vertex-reads.Post (λ _ _. [])
contains-vertex-agrees κs args a b x y p q = agree _ p q

pub get-vertex-neighborhood-agrees : Agrees 2 get-vertex-neighborhood.ps get-vertex-neighborhood.r get-vertex-neighborhood-reads.Post (λ _ x. x.1.1.0.now)
get-vertex-neighborhood-agrees κs args a b x y p q = agree _ p q

pub get-vertex-index-agrees : Agrees 2 get-vertex-index.ps get-vertex-index.r get-vertex-index-reads.Post (λ _ x. x.1.1.0.now)
get-vertex-index-agrees κs args a b x y p q = agree _ p q

-- ---- plain reads

pub get-vertex-weight-agrees : Agrees 1 get-vertex-weight.ps get-vertex-weight.r get-vertex-weight-reads.Post (λ _ _. [])
get-vertex-weight-agrees κs args a b x y p q = agree _ p q

pub get-hyperedge-weight-agrees : Agrees 1 get-hyperedge-weight.ps get-hyperedge-weight.r get-hyperedge-weight-reads.Post (λ _ _. [])
get-hyperedge-weight-agrees κs args a b x y p q = agree _ p q

pub get-hyperedge-vertices-agrees : Agrees 2 get-hyperedge-vertices.ps get-hyperedge-vertices.r get-hyperedge-vertices-reads.Post (λ _ x. x.1.1.0.now)
get-hyperedge-vertices-agrees κs args a b x y p q = agree _ p q

pub get-vertices-agrees : Agrees 2 get-vertices.ps get-vertices.r get-vertices-reads.Post (λ _ x. x.1.0.now)
get-vertices-agrees κs args a b x y p q = agree _ p q

pub get-hyperedges-agrees : Agrees 2 get-hyperedges.ps get-hyperedges.r get-hyperedges-reads.Post (λ _ x. x.1.0.now)
get-hyperedges-agrees κs args a b x y p q = agree _ p q

-- ---- traversal

pub get-bfs-agrees : Agrees 2 get-bfs.ps get-bfs.r get-bfs-reads.Post (λ _ x. x.1.1.0.now)
get-bfs-agrees κs args a b x y p q = agree _ p q

pub get-dfs-agrees : Agrees 2 get-dfs.ps get-dfs.r get-dfs-reads.Post (λ _ x. x.1.1.0.now)
get-dfs-agrees κs args a b x y p q = agree _ p q

pub is-reachable-agrees : Agrees 1 is-reachable.ps is-reachable.r is-reachable-reads.Post (λ _ _. [])
is-reachable-agrees κs args a b x y p q = agree _ p q

pub get-upstream-vertices-agrees : Agrees 2 get-upstream-vertices.ps get-upstream-vertices.r get-upstream-vertices-reads.Post (λ _ x. x.1.1.0.now)
get-upstream-vertices-agrees κs args a b x y p q = agree _ p q

pub get-downstream-vertices-agrees : Agrees 2 get-downstream-vertices.ps get-downstream-vertices.r get-downstream-vertices-reads.Post (λ _ x. x.1.1.0.now)
get-downstream-vertices-agrees κs args a b x y p q = agree _ p q

-- ---- structure

pub is-connected-agrees : Agrees 1 is-connected.ps is-connected.r is-connected-reads.Post (λ _ _. [])
is-connected-agrees κs args a b x y p q = agree _ p q

pub is-acyclic-agrees : Agrees 1 is-acyclic.ps is-acyclic.r is-acyclic-reads.Post (λ _ _. [])
is-acyclic-agrees κs args a b x y p q = agree _ p q

pub get-transitive-closure-agrees : Agrees 2 get-transitive-closure.ps get-transitive-closure.r get-transitive-closure-reads.Post (λ _ x. x.1.0.now)
get-transitive-closure-agrees κs args a b x y p q = agree _ p q

pub topological-sort-agrees : Agrees 2 topological-sort.ps topological-sort.r topological-sort-reads.Post (λ _ x. x.1.0.now)
topological-sort-agrees κs args a b x y p q = agree _ p q

pub strongly-connected-components-agrees : Agrees 2 strongly-connected-components.ps strongly-connected-components.r strongly-connected-components-reads.Post (λ _ x. x.1.0.now)
strongly-connected-components-agrees κs args a b x y p q = agree _ p q

pub connected-components-agrees : Agrees 2 connected-components.ps connected-components.r connected-components-reads.Post (λ _ x. x.1.0.now)
connected-components-agrees κs args a b x y p q = agree _ p q

-- ---- properties

pub get-orphan-vertices-agrees : Agrees 2 get-orphan-vertices.ps get-orphan-vertices.r get-orphan-vertices-reads.Post (λ _ x. x.1.0.now)
get-orphan-vertices-agrees κs args a b x y p q = agree _ p q

pub get-orphan-hyperedges-agrees : Agrees 2 get-orphan-hyperedges.ps get-orphan-hyperedges.r get-orphan-hyperedges-reads.Post (λ _ x. x.1.0.now)
get-orphan-hyperedges-agrees κs args a b x y p q = agree _ p q

pub get-endpoints-agrees : Agrees 2 get-endpoints.ps get-endpoints.r get-endpoints-reads.Post (λ _ x. x.1.0.now)
get-endpoints-agrees κs args a b x y p q = agree _ p q

pub get-inclusions-agrees : Agrees 2 get-inclusions.ps get-inclusions.r get-inclusions-reads.Post (λ _ x. x.1.0.now)
get-inclusions-agrees κs args a b x y p q = agree _ p q

pub find-cut-vertices-agrees : Agrees 2 find-cut-vertices.ps find-cut-vertices.r find-cut-vertices-reads.Post (λ _ x. x.1.0.now)
find-cut-vertices-agrees κs args a b x y p q = agree _ p q

pub get-nestedness-profile-agrees : Agrees 2 get-nestedness-profile.ps get-nestedness-profile.r get-nestedness-profile-reads.Post (λ _ x. x.1.0.now)
get-nestedness-profile-agrees κs args a b x y p q = agree _ p q

pub is-k-uniform-agrees : Agrees 1 is-k-uniform.ps is-k-uniform.r is-k-uniform-reads.Post (λ _ _. [])
is-k-uniform-agrees κs args a b x y p q = agree _ p q

-- ---- paths

pub get-dijkstra-connections-with-cost-agrees : Agrees 2 get-dijkstra-connections-with-cost.ps get-dijkstra-connections-with-cost.r get-dijkstra-connections-with-cost-reads.Post (λ _ x. x.1.1.1.0.now)
get-dijkstra-connections-with-cost-agrees κs args a b x y p q = agree _ p q

pub get-dijkstra-from-agrees : Agrees 2 get-dijkstra-from.ps get-dijkstra-from.r get-dijkstra-from-reads.Post (λ _ x. x.1.1.0.now)
get-dijkstra-from-agrees κs args a b x y p q = agree _ p q

-- ---- the walk

pub random-walk-agrees : Agrees 2 random-walk.ps random-walk.r random-walk-reads.Post (λ _ x. x.1.1.1.1.0.now)
random-walk-agrees κs args a b x y p q = agree _ p q

-- ---- frames

pub write-frames-agrees : Agrees 2 write-frames.ps write-frames.r write-frames-reads.Post (λ _ x. x.1.0.now)
write-frames-agrees κs args a b x y p q = agree _ p q

pub read-frames-agrees : Agrees 2 read-frames.ps read-frames.r read-frames-reads.Post (λ _ x. x.0.now)
read-frames-agrees κs args a b x y p q = agree _ p q
