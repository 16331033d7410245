-- The records of a listing, and their numbers as they are written. Assumes nothing.
use Rattle.std.specs.Prelude.{Option, Some}
use mathlib.Core.Path.{◌≡◌, sym, ap, ◌∙◌}
use mathlib.Core.Bool.{Bool}
use mathlib.Core.List.{List, map}
use Prim.Native.Nat.{ℕ, ◌≤◌, ◌<◌}
use native.Mathlib.Omega.{arith}
use lib.ListN.{length, take}
use Rattle.lists.specs.Inner.{Below}
use Rattle.lists.proofs.Count.{pigeon}
use Rattle.layout.specs.Content.{live_vertices, position}
use Rattle.layout.specs.Layout.{limit, vertex_count, read}
use Rattle.layout.specs.Inner.{Formed}
use Rattle.layout.specs.Answers.{Result, on_live, listed}
use Rattle.layout.proofs.Position.{found-live}
use Rattle.layout.proofs.Read.{live-length}
use Rattle.graph.specs.Reach.{matrix}
use Rattle.graph.specs.Bfs.{bfs}
use Rattle.depth.specs.Pre.{preorder}
use Rattle.steps.specs.Matrices.{number_of, steps_between}
use Rattle.steps.specs.Inner.{Holds}
use Rattle.steps.specs.Ordered.{Ordered}
use Rattle.steps.proofs.Holds.{holds-matrix}
use Rattle.traversal.specs.declared.Order.{Order}
use Rattle.traversal.specs.declared.Order.TheVariants.{BreadthFirst, DepthFirst}
use Rattle.traversal.specs.Traversal.{search_of, list_from, traversal, traversal_result}
use Rattle.traversal.proofs.Searches.{search-once, search-below, search-ext}

-- ---- the records: n is what `vertex_count` found, m what `step_matrix` made, c what the search counted

module _ {ws : List ℕ} (f : Formed limit ws) {m : List ℕ} (w : Holds (steps_between (read limit ws)) (vertex_count ws) m) (n : ℕ) (e : n ≡ vertex_count ws) (i : ℕ) (h : i < vertex_count ws)
    (c : ℕ) (order : List ℕ) where
  ordered : (how : Order) → (take c order ≡ search_of how (matrix m) n i) × (c ≡ length (search_of how (matrix m) n i))
      → Ordered (vertex_count ws) c order (search_of how (steps_between (read limit ws)) (vertex_count ws) i)
  ordered how r =
      let E : ℕ → ℕ → Bool = steps_between (read limit ws) in
      let small : vertex_count ws ≤ 256 = f.shape.vertices-le in
      let l : List ℕ = search_of how E (vertex_count ws) i in
      let same : search_of how (matrix m) n i ≡ l = rw e (search-ext how (matrix m) E (vertex_count ws) (holds-matrix w small) i h) in
      let b : Below (vertex_count ws) l = search-below how E (vertex_count ws) i small h in
      let k : c ≡ length l = r.1 ∙ ap length same in
      record { first = r.0 ∙ same; count = k; short = omega (arith, pigeon l (vertex_count ws) (search-once how E (vertex_count ws) i small h) b); below = b }

  module _ (how : Order) where
    pub ordered-bfs : how ≡ BreadthFirst → (take c order ≡ bfs (matrix m) n i) × (c ≡ length (bfs (matrix m) n i))
        → Ordered (vertex_count ws) c order (search_of how (steps_between (read limit ws)) (vertex_count ws) i)
    ordered-bfs p r = rw p (ordered BreadthFirst r)

    pub ordered-dfs : how ≡ DepthFirst → (take c order ≡ preorder (matrix m) n i) × (c ≡ length (preorder (matrix m) n i))
        → Ordered (vertex_count ws) c order (search_of how (steps_between (read limit ws)) (vertex_count ws) i)
    ordered-dfs p r = rw p (ordered DepthFirst r)

-- ---- answers

-- r is what `list_records` gives
pub order-listed : (ws : List ℕ) (i c : ℕ) (how : Order) {order : List ℕ} → Ordered (vertex_count ws) c order (search_of how (steps_between (read limit ws)) (vertex_count ws) i)
    → (r : Result) (lent : List ℕ) → r ≡ listed (map (number_of (read limit ws)) (take c order)) lent → r ≡ listed (list_from how (read limit ws) i) lent
unfolding list_from
order-listed ws i c how o r lent e = e ∙ rw (o.first, live-length limit ws)

-- p is what `find_vertex` found of v
module _ (ws : List ℕ) (v : ℕ) (p : Option ℕ) (e : p ≡ position v (live_vertices (read limit ws))) (lent : List ℕ) (how : Order) where
  pub start-found : (i : ℕ) (r : Result) → p ≡ Some i → r ≡ listed (list_from how (read limit ws) i) lent → r ≡ traversal_result how v lent (read limit ws)
  unfolding traversal_result on_live traversal
  start-found i r h q = rw (found-live v (live_vertices (read limit ws)) i (sym e ∙ h), ← e, h) q
