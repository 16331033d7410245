-- What is told of the vertex, or of the hyperedge, that a search found. Assumes nothing.
use Rattle.std.specs.Prelude.{Option, Some, Ok}
use mathlib.Core.Path.{◌≡◌, sym, ap, ◌∙◌}
use mathlib.Core.List.{List, []}
use Prim.Native.Nat.{ℕ, ◌<◌}
use native.Mathlib.Omega.{arith}
use lib.ListN.{get_or}
use Rattle.lists.proofs.Tab.{getD-tab}
use Rattle.layout.specs.Content.{Vertex, Hyperedge, live_vertices, live_hyperedges, no_vertex, no_hyperedge, position, place}
use Rattle.layout.specs.Layout.{limit, vertex_limit, hyperedge_limit, vertex_count, hyperedge_count, vertex_at, hyperedge_at, members_at, read_vertices, read_hyperedges, read}
use Rattle.layout.specs.Inner.{Formed}
use Rattle.layout.specs.Answers.{Result, result_of, vertex_missing, hyperedge_missing, listed}
use Rattle.layout.proofs.Read.{vertex-found, hyperedge-found}
use Rattle.edits.proofs.UpdateHyperedge.{members-found}
use Rattle.lookups.proofs.Found.{found-done, found-same}
use Rattle.reads.specs.Reads.{vertex_weight, hyperedge_weight, vertex_weight_result, hyperedge_weight_result, members_result}

-- ---- p is what `find_vertex` returned

module _ (ws : List ℕ) (v i : ℕ) (p : Option ℕ) (e : p ≡ position v (live_vertices (read limit ws))) (h : p ≡ Some i) where
  pub vertex-within : Formed limit ws → i < vertex_limit
  vertex-within f = omega (arith, (vertex-found limit ws v i (sym e ∙ h)).0, f.shape.vertices-le)

  pub weight-here : (vertex_at ws i).weight ≡ vertex_weight v (read limit ws)
  unfolding vertex_weight
  weight-here =
      ap (λ (x : Vertex). x.weight) (sym (getD-tab (vertex_at ws) (vertex_count ws) i no_vertex (vertex-found limit ws v i (sym e ∙ h)).0))
      ∙ ap (λ (q : Option ℕ). (get_or (read_vertices ws) (place q) no_vertex).weight) (sym h ∙ e)

  -- x is the word, y the same as a detail
  pub vertex-told : (x y : ℕ) → x ≡ (vertex_at ws i).weight → y ≡ x → result_of (Ok y) [] ≡ vertex_weight_result v (read limit ws)
  unfolding vertex_weight_result
  vertex-told x y a b = found-done (live_vertices (read limit ws)) vertex_missing v [] p i e h y (vertex_weight v (read limit ws)) (b ∙ a ∙ weight-here)

-- ---- p is what `find_hyperedge` returned

module _ (ws : List ℕ) (x j : ℕ) (p : Option ℕ) (e : p ≡ position x (live_hyperedges (read limit ws))) (h : p ≡ Some j) where
  pub hyperedge-within : j < hyperedge_count ws
  hyperedge-within = (hyperedge-found limit ws x j (sym e ∙ h)).0

  pub hyperedge-small : Formed limit ws → j < hyperedge_limit
  hyperedge-small f = omega (arith, hyperedge-within, f.shape.hyperedges-le)

  pub cost-here : (hyperedge_at limit ws j).weight ≡ hyperedge_weight x (read limit ws)
  unfolding hyperedge_weight
  cost-here =
      ap (λ (y : Hyperedge). y.weight) (sym (getD-tab (hyperedge_at limit ws) (hyperedge_count ws) j no_hyperedge hyperedge-within))
      ∙ ap (λ (q : Option ℕ). (get_or (read_hyperedges limit ws) (place q) no_hyperedge).weight) (sym h ∙ e)

  -- w is the word, y the same as a detail
  pub hyperedge-told : (w y : ℕ) → w ≡ (hyperedge_at limit ws j).weight → y ≡ w → result_of (Ok y) [] ≡ hyperedge_weight_result x (read limit ws)
  unfolding hyperedge_weight_result
  hyperedge-told w y a b = found-done (live_hyperedges (read limit ws)) hyperedge_missing x [] p j e h y (hyperedge_weight x (read limit ws)) (b ∙ a ∙ cost-here)

  -- r is what `list_members` answered and left
  pub members-told : (out : List ℕ) (r : Result) → r ≡ listed (members_at limit ws j) out → r ≡ members_result x out (read limit ws)
  unfolding members_result
  members-told out r q =
      found-same (live_hyperedges (read limit ws)) hyperedge_missing x out p j e h r _
      (q ∙ ap (λ (xs : List ℕ). listed xs out) (sym (members-found limit ws x j (sym e ∙ h))))
