-- The same for every function of the C interface. Assumes nothing.
use mathlib.Core.Path.{◌≡◌, refl, sym, ap, ◌∙◌}
use mathlib.Core.List.{List, []}
use Prim.Native.Nat.{ℕ}
use seplogic.Ra.Ura.{Ura}
use base.Logic.{SProp}
use prog.Memory.{Memory}
use prog.Routine.{Routine}
use types.Logic.{Logic}
use contract.Monad.{Fun}
use Rattle.layout.specs.declared.Reply.{Reply}
use Rattle.layout.specs.Answers.{Result, on_formed}
use Rattle.trays.specs.Trays.{tray_result}
use Rattle.vaultsorrel.specs.Replies.{replied}
use Rattle.agreement.specs.Agreement.{Agrees, Promise, IsContract, AgreesBy}
use Rattle.vaultsorrel.proofs.vs_add_vertex.Kinds as vs-add-vertex
use Rattle.vaultsorrel.proofs.vs_add_vertex.Reads as vs-add-vertex-reads
use Rattle.vaultsorrel.proofs.vs_add_hyperedge.Kinds as vs-add-hyperedge
use Rattle.vaultsorrel.proofs.vs_add_hyperedge.Reads as vs-add-hyperedge-reads
use Rattle.vaultsorrel.proofs.vs_update_hyperedge_vertices.Kinds as vs-update-hyperedge-vertices
use Rattle.vaultsorrel.proofs.vs_update_hyperedge_vertices.Reads as vs-update-hyperedge-vertices-reads
use Rattle.vaultsorrel.proofs.vs_remove_vertex.Kinds as vs-remove-vertex
use Rattle.vaultsorrel.proofs.vs_remove_vertex.Reads as vs-remove-vertex-reads
use Rattle.vaultsorrel.proofs.vs_merge_vertices.Kinds as vs-merge-vertices
use Rattle.vaultsorrel.proofs.vs_merge_vertices.Reads as vs-merge-vertices-reads
use Rattle.vaultsorrel.proofs.vs_remove_hyperedge.Kinds as vs-remove-hyperedge
use Rattle.vaultsorrel.proofs.vs_remove_hyperedge.Reads as vs-remove-hyperedge-reads
use Rattle.vaultsorrel.specs.contracts.vs_withdraw_tray as vs-withdraw-tray
use Rattle.vaultsorrel.proofs.vs_clear.Kinds as vs-clear
use Rattle.vaultsorrel.proofs.vs_clear.Reads as vs-clear-reads
use Rattle.vaultsorrel.proofs.vs_is_empty.Kinds as vs-is-empty
use Rattle.vaultsorrel.proofs.vs_is_empty.Reads as vs-is-empty-reads
use Rattle.vaultsorrel.proofs.vs_get_adjacent_vertices_from.Kinds as vs-get-adjacent-vertices-from
use Rattle.vaultsorrel.proofs.vs_get_adjacent_vertices_from.Reads as vs-get-adjacent-vertices-from-reads
use Rattle.vaultsorrel.proofs.vs_get_adjacent_vertices_to.Kinds as vs-get-adjacent-vertices-to
use Rattle.vaultsorrel.proofs.vs_get_adjacent_vertices_to.Reads as vs-get-adjacent-vertices-to-reads
use Rattle.vaultsorrel.proofs.vs_get_full_adjacent_vertices_from.Kinds as vs-get-full-adjacent-vertices-from
use Rattle.vaultsorrel.proofs.vs_get_full_adjacent_vertices_from.Reads as vs-get-full-adjacent-vertices-from-reads
use Rattle.vaultsorrel.proofs.vs_get_full_adjacent_vertices_to.Kinds as vs-get-full-adjacent-vertices-to
use Rattle.vaultsorrel.proofs.vs_get_full_adjacent_vertices_to.Reads as vs-get-full-adjacent-vertices-to-reads
use Rattle.vaultsorrel.proofs.vs_get_vertex_degree_in.Kinds as vs-get-vertex-degree-in
use Rattle.vaultsorrel.proofs.vs_get_vertex_degree_in.Reads as vs-get-vertex-degree-in-reads
use Rattle.vaultsorrel.proofs.vs_get_vertex_degree_out.Kinds as vs-get-vertex-degree-out
use Rattle.vaultsorrel.proofs.vs_get_vertex_degree_out.Reads as vs-get-vertex-degree-out-reads
use Rattle.vaultsorrel.proofs.vs_get_hyperedges_connecting.Kinds as vs-get-hyperedges-connecting
use Rattle.vaultsorrel.proofs.vs_get_hyperedges_connecting.Reads as vs-get-hyperedges-connecting-reads
use Rattle.vaultsorrel.proofs.vs_get_hyperedges_intersections.Kinds as vs-get-hyperedges-intersections
use Rattle.vaultsorrel.proofs.vs_get_hyperedges_intersections.Reads as vs-get-hyperedges-intersections-reads
use Rattle.vaultsorrel.proofs.vs_find_hyperedges_by_weight.Kinds as vs-find-hyperedges-by-weight
use Rattle.vaultsorrel.proofs.vs_find_hyperedges_by_weight.Reads as vs-find-hyperedges-by-weight-reads
use Rattle.vaultsorrel.proofs.vs_get_full_vertex_hyperedges.Kinds as vs-get-full-vertex-hyperedges
use Rattle.vaultsorrel.proofs.vs_get_full_vertex_hyperedges.Reads as vs-get-full-vertex-hyperedges-reads
use Rattle.vaultsorrel.proofs.vs_contains_vertex.Kinds as vs-contains-vertex
use Rattle.vaultsorrel.proofs.vs_contains_vertex.Reads as vs-contains-vertex-reads
use Rattle.vaultsorrel.proofs.vs_get_vertex_neighborhood.Kinds as vs-get-vertex-neighborhood
use Rattle.vaultsorrel.proofs.vs_get_vertex_neighborhood.Reads as vs-get-vertex-neighborhood-reads
use Rattle.vaultsorrel.proofs.vs_get_vertex_index.Kinds as vs-get-vertex-index
use Rattle.vaultsorrel.proofs.vs_get_vertex_index.Reads as vs-get-vertex-index-reads
use Rattle.vaultsorrel.proofs.vs_get_vertex_weight.Kinds as vs-get-vertex-weight
use Rattle.vaultsorrel.proofs.vs_get_vertex_weight.Reads as vs-get-vertex-weight-reads
use Rattle.vaultsorrel.proofs.vs_get_hyperedge_weight.Kinds as vs-get-hyperedge-weight
use Rattle.vaultsorrel.proofs.vs_get_hyperedge_weight.Reads as vs-get-hyperedge-weight-reads
use Rattle.vaultsorrel.proofs.vs_get_hyperedge_vertices.Kinds as vs-get-hyperedge-vertices
use Rattle.vaultsorrel.proofs.vs_get_hyperedge_vertices.Reads as vs-get-hyperedge-vertices-reads
use Rattle.vaultsorrel.proofs.vs_get_vertices.Kinds as vs-get-vertices
use Rattle.vaultsorrel.proofs.vs_get_vertices.Reads as vs-get-vertices-reads
use Rattle.vaultsorrel.proofs.vs_get_hyperedges.Kinds as vs-get-hyperedges
use Rattle.vaultsorrel.proofs.vs_get_hyperedges.Reads as vs-get-hyperedges-reads
use Rattle.vaultsorrel.proofs.vs_get_bfs.Kinds as vs-get-bfs
use Rattle.vaultsorrel.proofs.vs_get_bfs.Reads as vs-get-bfs-reads
use Rattle.vaultsorrel.proofs.vs_get_dfs.Kinds as vs-get-dfs
use Rattle.vaultsorrel.proofs.vs_get_dfs.Reads as vs-get-dfs-reads
use Rattle.vaultsorrel.proofs.vs_is_reachable.Kinds as vs-is-reachable
use Rattle.vaultsorrel.proofs.vs_is_reachable.Reads as vs-is-reachable-reads
use Rattle.vaultsorrel.proofs.vs_get_upstream_vertices.Kinds as vs-get-upstream-vertices
use Rattle.vaultsorrel.proofs.vs_get_upstream_vertices.Reads as vs-get-upstream-vertices-reads
use Rattle.vaultsorrel.proofs.vs_get_downstream_vertices.Kinds as vs-get-downstream-vertices
use Rattle.vaultsorrel.proofs.vs_get_downstream_vertices.Reads as vs-get-downstream-vertices-reads
use Rattle.vaultsorrel.proofs.vs_is_connected.Kinds as vs-is-connected
use Rattle.vaultsorrel.proofs.vs_is_connected.Reads as vs-is-connected-reads
use Rattle.vaultsorrel.proofs.vs_is_acyclic.Kinds as vs-is-acyclic
use Rattle.vaultsorrel.proofs.vs_is_acyclic.Reads as vs-is-acyclic-reads
use Rattle.vaultsorrel.proofs.vs_get_transitive_closure.Kinds as vs-get-transitive-closure
use Rattle.vaultsorrel.proofs.vs_get_transitive_closure.Reads as vs-get-transitive-closure-reads
use Rattle.vaultsorrel.proofs.vs_topological_sort.Kinds as vs-topological-sort
use Rattle.vaultsorrel.proofs.vs_topological_sort.Reads as vs-topological-sort-reads
use Rattle.vaultsorrel.proofs.vs_strongly_connected_components.Kinds as vs-strongly-connected-components
use Rattle.vaultsorrel.proofs.vs_strongly_connected_components.Reads as vs-strongly-connected-components-reads
use Rattle.vaultsorrel.proofs.vs_connected_components.Kinds as vs-connected-components
use Rattle.vaultsorrel.proofs.vs_connected_components.Reads as vs-connected-components-reads
use Rattle.vaultsorrel.proofs.vs_get_orphan_vertices.Kinds as vs-get-orphan-vertices
use Rattle.vaultsorrel.proofs.vs_get_orphan_vertices.Reads as vs-get-orphan-vertices-reads
use Rattle.vaultsorrel.proofs.vs_get_orphan_hyperedges.Kinds as vs-get-orphan-hyperedges
use Rattle.vaultsorrel.proofs.vs_get_orphan_hyperedges.Reads as vs-get-orphan-hyperedges-reads
use Rattle.vaultsorrel.proofs.vs_get_endpoints.Kinds as vs-get-endpoints
use Rattle.vaultsorrel.proofs.vs_get_endpoints.Reads as vs-get-endpoints-reads
use Rattle.vaultsorrel.proofs.vs_get_inclusions.Kinds as vs-get-inclusions
use Rattle.vaultsorrel.proofs.vs_get_inclusions.Reads as vs-get-inclusions-reads
use Rattle.vaultsorrel.proofs.vs_find_cut_vertices.Kinds as vs-find-cut-vertices
use Rattle.vaultsorrel.proofs.vs_find_cut_vertices.Reads as vs-find-cut-vertices-reads
use Rattle.vaultsorrel.proofs.vs_get_nestedness_profile.Kinds as vs-get-nestedness-profile
use Rattle.vaultsorrel.proofs.vs_get_nestedness_profile.Reads as vs-get-nestedness-profile-reads
use Rattle.vaultsorrel.proofs.vs_is_k_uniform.Kinds as vs-is-k-uniform
use Rattle.vaultsorrel.proofs.vs_is_k_uniform.Reads as vs-is-k-uniform-reads
use Rattle.vaultsorrel.proofs.vs_get_dijkstra_connections_with_cost.Kinds as vs-get-dijkstra-connections-with-cost
use Rattle.vaultsorrel.proofs.vs_get_dijkstra_connections_with_cost.Reads as vs-get-dijkstra-connections-with-cost-reads
use Rattle.vaultsorrel.proofs.vs_get_dijkstra_from.Kinds as vs-get-dijkstra-from
use Rattle.vaultsorrel.proofs.vs_get_dijkstra_from.Reads as vs-get-dijkstra-from-reads
use Rattle.vaultsorrel.proofs.vs_random_walk.Kinds as vs-random-walk
use Rattle.vaultsorrel.proofs.vs_random_walk.Reads as vs-random-walk-reads
use Rattle.vaultsorrel.proofs.vs_write_frames.Kinds as vs-write-frames
use Rattle.vaultsorrel.proofs.vs_write_frames.Reads as vs-write-frames-reads
use Rattle.vaultsorrel.proofs.vs_read_frames.Kinds as vs-read-frames
use Rattle.vaultsorrel.proofs.vs_read_frames.Reads as vs-read-frames-reads

pub replies-agree : (promised : Result) {a b : Reply} {x y : List ℕ} → replied a x ≡ promised → replied b y ≡ promised → (a ≡ b) × (x ≡ y)
replies-agree promised p q = (
  ap (λ (r : Result). record { number = r.number; detail = r.detail }) (p ∙ sym q),
  ap (λ (r : Result). r.lent) (p ∙ sym q),
)

-- ---- edits

pub vs-add-vertex-agrees : Agrees 1 vs-add-vertex.ps vs-add-vertex.r vs-add-vertex-reads.Post (λ _ x. x.0.now)
vs-add-vertex-agrees κs args a b x y p q = replies-agree _ p q

pub vs-add-hyperedge-agrees : Agrees 2 vs-add-hyperedge.ps vs-add-hyperedge.r vs-add-hyperedge-reads.Post (λ _ x. x.0.now)
vs-add-hyperedge-agrees κs args a b x y p q = replies-agree _ p q

pub vs-update-hyperedge-vertices-agrees : Agrees 2 vs-update-hyperedge-vertices.ps vs-update-hyperedge-vertices.r vs-update-hyperedge-vertices-reads.Post (λ _ x. x.0.now)
vs-update-hyperedge-vertices-agrees κs args a b x y p q = replies-agree _ p q

pub vs-remove-vertex-agrees : Agrees 1 vs-remove-vertex.ps vs-remove-vertex.r vs-remove-vertex-reads.Post (λ _ x. x.0.now)
vs-remove-vertex-agrees κs args a b x y p q = replies-agree _ p q

pub vs-merge-vertices-agrees : Agrees 1 vs-merge-vertices.ps vs-merge-vertices.r vs-merge-vertices-reads.Post (λ _ x. x.0.now)
vs-merge-vertices-agrees κs args a b x y p q = replies-agree _ p q

pub vs-remove-hyperedge-agrees : Agrees 1 vs-remove-hyperedge.ps vs-remove-hyperedge.r vs-remove-hyperedge-reads.Post (λ _ x. x.0.now)
vs-remove-hyperedge-agrees κs args a b x y p q = replies-agree _ p q

abbrev vs-tray-promise : Promise vs-withdraw-tray.ended
vs-tray-promise κs args r x = replied r x.0.now ≡ on_formed args.0.now args.0.now (tray_result args.1.0.now args.0.now)

pub vs-withdraw-tray-read : {M : Type 1} {𝓤 : Ura M} (𝓛 : Logic 𝓤) (mem : Memory → SProp 𝓤) (run : Routine → Fun 𝓤)
    → IsContract 𝓤 vs-withdraw-tray.ended (vs-withdraw-tray.clauses 𝓛 mem run) vs-tray-promise
vs-withdraw-tray-read 𝓛 mem run κs args = refl

pub vs-withdraw-tray-agrees : AgreesBy vs-withdraw-tray.ended vs-tray-promise (λ _ x. x.0.now)
vs-withdraw-tray-agrees κs args a b x y p q = replies-agree _ p q

pub vs-clear-agrees : Agrees 1 vs-clear.ps vs-clear.r vs-clear-reads.Post (λ _ x. x.0.now)
vs-clear-agrees κs args a b x y p q = replies-agree _ p q

pub vs-is-empty-agrees : Agrees 1 vs-is-empty.ps vs-is-empty.r vs-is-empty-reads.Post (λ _ _. [])
vs-is-empty-agrees κs args a b x y p q = replies-agree _ p q

-- ---- lookups

pub vs-get-adjacent-vertices-from-agrees : Agrees 2 vs-get-adjacent-vertices-from.ps vs-get-adjacent-vertices-from.r vs-get-adjacent-vertices-from-reads.Post (λ _ x. x.1.1.0.now)
vs-get-adjacent-vertices-from-agrees κs args a b x y p q = replies-agree _ p q

pub vs-get-adjacent-vertices-to-agrees : Agrees 2 vs-get-adjacent-vertices-to.ps vs-get-adjacent-vertices-to.r vs-get-adjacent-vertices-to-reads.Post (λ _ x. x.1.1.0.now)
vs-get-adjacent-vertices-to-agrees κs args a b x y p q = replies-agree _ p q

pub vs-get-full-adjacent-vertices-from-agrees : Agrees 2 vs-get-full-adjacent-vertices-from.ps vs-get-full-adjacent-vertices-from.r vs-get-full-adjacent-vertices-from-reads.Post (λ _ x. x.1.1.0.now)
vs-get-full-adjacent-vertices-from-agrees κs args a b x y p q = replies-agree _ p q

pub vs-get-full-adjacent-vertices-to-agrees : Agrees 2 vs-get-full-adjacent-vertices-to.ps vs-get-full-adjacent-vertices-to.r vs-get-full-adjacent-vertices-to-reads.Post (λ _ x. x.1.1.0.now)
vs-get-full-adjacent-vertices-to-agrees κs args a b x y p q = replies-agree _ p q

pub vs-get-vertex-degree-in-agrees : Agrees 1 vs-get-vertex-degree-in.ps vs-get-vertex-degree-in.r vs-get-vertex-degree-in-reads.Post (λ _ _. [])
vs-get-vertex-degree-in-agrees κs args a b x y p q = replies-agree _ p q

pub vs-get-vertex-degree-out-agrees : Agrees 1 vs-get-vertex-degree-out.ps vs-get-vertex-degree-out.r vs-get-vertex-degree-out-reads.Post (λ _ _. [])
vs-get-vertex-degree-out-agrees κs args a b x y p q = replies-agree _ p q

pub vs-get-hyperedges-connecting-agrees : Agrees 2 vs-get-hyperedges-connecting.ps vs-get-hyperedges-connecting.r vs-get-hyperedges-connecting-reads.Post (λ _ x. x.1.1.1.0.now)
vs-get-hyperedges-connecting-agrees κs args a b x y p q = replies-agree _ p q

pub vs-get-hyperedges-intersections-agrees : Agrees 3 vs-get-hyperedges-intersections.ps vs-get-hyperedges-intersections.r vs-get-hyperedges-intersections-reads.Post (λ _ x. x.1.1.0.now)
vs-get-hyperedges-intersections-agrees κs args a b x y p q = replies-agree _ p q

pub vs-find-hyperedges-by-weight-agrees : Agrees 2 vs-find-hyperedges-by-weight.ps vs-find-hyperedges-by-weight.r vs-find-hyperedges-by-weight-reads.Post (λ _ x. x.1.1.0.now)
vs-find-hyperedges-by-weight-agrees κs args a b x y p q = replies-agree _ p q

pub vs-get-full-vertex-hyperedges-agrees : Agrees 2 vs-get-full-vertex-hyperedges.ps vs-get-full-vertex-hyperedges.r vs-get-full-vertex-hyperedges-reads.Post (λ _ x. x.1.1.0.now)
vs-get-full-vertex-hyperedges-agrees κs args a b x y p q = replies-agree _ p q

pub vs-contains-vertex-agrees : Agrees 1 vs-contains-vertex.ps vs-contains-vertex.r vs-contains-vertex-reads.Post (λ _ _. [])
vs-contains-vertex-agrees κs args a b x y p q = replies-agree _ p q

pub vs-get-vertex-neighborhood-agrees : Agrees 2 vs-get-vertex-neighborhood.ps vs-get-vertex-neighborhood.r vs-get-vertex-neighborhood-reads.Post (λ _ x. x.1.1.0.now)
vs-get-vertex-neighborhood-agrees κs args a b x y p q = replies-agree _ p q

pub vs-get-vertex-index-agrees : Agrees 2 vs-get-vertex-index.ps vs-get-vertex-index.r vs-get-vertex-index-reads.Post (λ _ x. x.1.1.0.now)
vs-get-vertex-index-agrees κs args a b x y p q = replies-agree _ p q

-- ---- plain reads

pub vs-get-vertex-weight-agrees : Agrees 1 vs-get-vertex-weight.ps vs-get-vertex-weight.r vs-get-vertex-weight-reads.Post (λ _ _. [])
vs-get-vertex-weight-agrees κs args a b x y p q = replies-agree _ p q

pub vs-get-hyperedge-weight-agrees : Agrees 1 vs-get-hyperedge-weight.ps vs-get-hyperedge-weight.r vs-get-hyperedge-weight-reads.Post (λ _ _. [])
vs-get-hyperedge-weight-agrees κs args a b x y p q = replies-agree _ p q

pub vs-get-hyperedge-vertices-agrees : Agrees 2 vs-get-hyperedge-vertices.ps vs-get-hyperedge-vertices.r vs-get-hyperedge-vertices-reads.Post (λ _ x. x.1.1.0.now)
vs-get-hyperedge-vertices-agrees κs args a b x y p q = replies-agree _ p q

pub vs-get-vertices-agrees : Agrees 2 vs-get-vertices.ps vs-get-vertices.r vs-get-vertices-reads.Post (λ _ x. x.1.0.now)
vs-get-vertices-agrees κs args a b x y p q = replies-agree _ p q

pub vs-get-hyperedges-agrees : Agrees 2 vs-get-hyperedges.ps vs-get-hyperedges.r vs-get-hyperedges-reads.Post (λ _ x. x.1.0.now)
vs-get-hyperedges-agrees κs args a b x y p q = replies-agree _ p q

-- ---- traversal

pub vs-get-bfs-agrees : Agrees 2 vs-get-bfs.ps vs-get-bfs.r vs-get-bfs-reads.Post (λ _ x. x.1.1.0.now)
vs-get-bfs-agrees κs args a b x y p q = replies-agree _ p q

pub vs-get-dfs-agrees : Agrees 2 vs-get-dfs.ps vs-get-dfs.r vs-get-dfs-reads.Post (λ _ x. x.1.1.0.now)
vs-get-dfs-agrees κs args a b x y p q = replies-agree _ p q

pub vs-is-reachable-agrees : Agrees 1 vs-is-reachable.ps vs-is-reachable.r vs-is-reachable-reads.Post (λ _ _. [])
vs-is-reachable-agrees κs args a b x y p q = replies-agree _ p q

pub vs-get-upstream-vertices-agrees : Agrees 2 vs-get-upstream-vertices.ps vs-get-upstream-vertices.r vs-get-upstream-vertices-reads.Post (λ _ x. x.1.1.0.now)
vs-get-upstream-vertices-agrees κs args a b x y p q = replies-agree _ p q

pub vs-get-downstream-vertices-agrees : Agrees 2 vs-get-downstream-vertices.ps vs-get-downstream-vertices.r vs-get-downstream-vertices-reads.Post (λ _ x. x.1.1.0.now)
vs-get-downstream-vertices-agrees κs args a b x y p q = replies-agree _ p q

-- ---- structure

pub vs-is-connected-agrees : Agrees 1 vs-is-connected.ps vs-is-connected.r vs-is-connected-reads.Post (λ _ _. [])
vs-is-connected-agrees κs args a b x y p q = replies-agree _ p q

pub vs-is-acyclic-agrees : Agrees 1 vs-is-acyclic.ps vs-is-acyclic.r vs-is-acyclic-reads.Post (λ _ _. [])
vs-is-acyclic-agrees κs args a b x y p q = replies-agree _ p q

pub vs-get-transitive-closure-agrees : Agrees 2 vs-get-transitive-closure.ps vs-get-transitive-closure.r vs-get-transitive-closure-reads.Post (λ _ x. x.1.0.now)
vs-get-transitive-closure-agrees κs args a b x y p q = replies-agree _ p q

pub vs-topological-sort-agrees : Agrees 2 vs-topological-sort.ps vs-topological-sort.r vs-topological-sort-reads.Post (λ _ x. x.1.0.now)
vs-topological-sort-agrees κs args a b x y p q = replies-agree _ p q

pub vs-strongly-connected-components-agrees : Agrees 2 vs-strongly-connected-components.ps vs-strongly-connected-components.r vs-strongly-connected-components-reads.Post (λ _ x. x.1.0.now)
vs-strongly-connected-components-agrees κs args a b x y p q = replies-agree _ p q

pub vs-connected-components-agrees : Agrees 2 vs-connected-components.ps vs-connected-components.r vs-connected-components-reads.Post (λ _ x. x.1.0.now)
vs-connected-components-agrees κs args a b x y p q = replies-agree _ p q

-- ---- properties

pub vs-get-orphan-vertices-agrees : Agrees 2 vs-get-orphan-vertices.ps vs-get-orphan-vertices.r vs-get-orphan-vertices-reads.Post (λ _ x. x.1.0.now)
vs-get-orphan-vertices-agrees κs args a b x y p q = replies-agree _ p q

pub vs-get-orphan-hyperedges-agrees : Agrees 2 vs-get-orphan-hyperedges.ps vs-get-orphan-hyperedges.r vs-get-orphan-hyperedges-reads.Post (λ _ x. x.1.0.now)
vs-get-orphan-hyperedges-agrees κs args a b x y p q = replies-agree _ p q

pub vs-get-endpoints-agrees : Agrees 2 vs-get-endpoints.ps vs-get-endpoints.r vs-get-endpoints-reads.Post (λ _ x. x.1.0.now)
vs-get-endpoints-agrees κs args a b x y p q = replies-agree _ p q

pub vs-get-inclusions-agrees : Agrees 2 vs-get-inclusions.ps vs-get-inclusions.r vs-get-inclusions-reads.Post (λ _ x. x.1.0.now)
vs-get-inclusions-agrees κs args a b x y p q = replies-agree _ p q

pub vs-find-cut-vertices-agrees : Agrees 2 vs-find-cut-vertices.ps vs-find-cut-vertices.r vs-find-cut-vertices-reads.Post (λ _ x. x.1.0.now)
vs-find-cut-vertices-agrees κs args a b x y p q = replies-agree _ p q

pub vs-get-nestedness-profile-agrees : Agrees 2 vs-get-nestedness-profile.ps vs-get-nestedness-profile.r vs-get-nestedness-profile-reads.Post (λ _ x. x.1.0.now)
vs-get-nestedness-profile-agrees κs args a b x y p q = replies-agree _ p q

pub vs-is-k-uniform-agrees : Agrees 1 vs-is-k-uniform.ps vs-is-k-uniform.r vs-is-k-uniform-reads.Post (λ _ _. [])
vs-is-k-uniform-agrees κs args a b x y p q = replies-agree _ p q

-- ---- paths

pub vs-get-dijkstra-connections-with-cost-agrees : Agrees 2 vs-get-dijkstra-connections-with-cost.ps vs-get-dijkstra-connections-with-cost.r vs-get-dijkstra-connections-with-cost-reads.Post (λ _ x. x.1.1.1.0.now)
vs-get-dijkstra-connections-with-cost-agrees κs args a b x y p q = replies-agree _ p q

pub vs-get-dijkstra-from-agrees : Agrees 2 vs-get-dijkstra-from.ps vs-get-dijkstra-from.r vs-get-dijkstra-from-reads.Post (λ _ x. x.1.1.0.now)
vs-get-dijkstra-from-agrees κs args a b x y p q = replies-agree _ p q

-- ---- the walk

pub vs-random-walk-agrees : Agrees 2 vs-random-walk.ps vs-random-walk.r vs-random-walk-reads.Post (λ _ x. x.1.1.1.1.0.now)
vs-random-walk-agrees κs args a b x y p q = replies-agree _ p q

-- ---- frames

pub vs-write-frames-agrees : Agrees 2 vs-write-frames.ps vs-write-frames.r vs-write-frames-reads.Post (λ _ x. x.1.0.now)
vs-write-frames-agrees κs args a b x y p q = replies-agree _ p q

pub vs-read-frames-agrees : Agrees 2 vs-read-frames.ps vs-read-frames.r vs-read-frames-reads.Post (λ _ x. x.0.now)
vs-read-frames-agrees κs args a b x y p q = replies-agree _ p q
