-- Walks in a direction: between vertices, and between records in the matrix of the steps. Assumes nothing.
use mathlib.Core.Path.{◌≡◌, sym, ap, ◌∙◌, subst}
use mathlib.Core.Bool.{true}
use mathlib.Core.List.{List}
use Prim.Native.Nat.{ℕ, ◌<◌}
use Rattle.lists.specs.Tests.{bit}
use Rattle.lists.proofs.Cases.{on, clash}
use Rattle.lists.proofs.Memb.{memb-getD}
use Rattle.walks.specs.Walks.{Reach, here, step}
use Rattle.walks.proofs.Walks.{reach-trans, reach-keeps}
use Rattle.layout.specs.Content.{live_vertices, is_live}
use Rattle.layout.specs.Layout.{limit, vertex_count, read}
use Rattle.layout.specs.Inner.{Formed}
use Rattle.layout.specs.Steps.{has_step}
use Rattle.layout.proofs.Read.{live-length}
use Rattle.graph.specs.Reach.{matrix, Edge}
use Rattle.graph.specs.Post.{Reached}
use Rattle.lookups.specs.declared.Direction.{Direction}
use Rattle.lookups.specs.declared.Direction.TheVariants.{From, To}
use Rattle.lookups.specs.Lookups.{oriented}
use Rattle.steps.specs.Matrices.{number_of, Related, steps_between}
use Rattle.steps.specs.Inner.{Holds, turned_between}
use Rattle.steps.proofs.Among.{Among, steps-among, turned-among}
use Rattle.steps.proofs.Records.{holds-agrees, reach-numbers, reach-records}
use Rattle.traversal.specs.Traversal.{reachable}
use Rattle.traversal.proofs.Walks.{reachable-walk, walk-reachable}
use Rattle.reached_vertices.specs.Reached.{Leads}
use Rattle.reached_vertices.specs.Inner.{steps_along, SeenAlong}

-- ---- the matrix: `step_matrix` or `turned_matrix` made m

module _ (ws : List ℕ) (dir : Direction) {m : List ℕ} where
  pub along-from : dir ≡ From → Holds (steps_between (read limit ws)) (vertex_count ws) m → Holds (steps_along dir (read limit ws)) (vertex_count ws) m
  along-from e w = rw e w

  pub along-to : dir ≡ To → Holds (turned_between (read limit ws)) (vertex_count ws) m → Holds (steps_along dir (read limit ws)) (vertex_count ws) m
  along-to e w = rw e w

-- ---- a walk, gone back

reach-turned : {R : ℕ → ℕ → Type 0} {x y : ℕ} → Reach R x y → Reach (λ u v. R v u) y x
reach-turned here = here
reach-turned (step a r) = reach-trans (step here r) (reach-turned a)

module _ {ws : List ℕ} (f : Formed limit ws) where
  among : (dir : Direction) → Among (live_vertices (read limit ws)) (oriented dir (has_step (read limit ws)))
  among From = steps-among (read limit ws) f.content
  among To = turned-among (read limit ws) f.content

  leads-along : (dir : Direction) {x y : ℕ} → Leads dir (read limit ws) x y → Reach (Related (oriented dir (has_step (read limit ws)))) x y
  leads-along From a = a
  leads-along To a = reach-turned a

  along-leads : (dir : Direction) {x y : ℕ} → Reach (Related (oriented dir (has_step (read limit ws)))) x y → Leads dir (read limit ws) x y
  along-leads From a = a
  along-leads To a = reach-turned a

  -- whoever is led to is live
  pub led-live : (dir : Direction) (x y : ℕ) → is_live (live_vertices (read limit ws)) x ≡ true → Leads dir (read limit ws) x y → is_live (live_vertices (read limit ws)) y ≡ true
  led-live dir x y l a = reach-keeps (λ z. is_live (live_vertices (read limit ws)) z ≡ true) l (λ u v _ r. (among dir u v r).1) (leads-along dir a)

  -- what is computed is what a walk leads to
  module _ (x y : ℕ) (lx : is_live (live_vertices (read limit ws)) x ≡ true) (ly : is_live (live_vertices (read limit ws)) y ≡ true) where
    pub reachable-leads : (dir : Direction) → oriented dir (reachable (read limit ws)) x y ≡ true → Leads dir (read limit ws) x y
    reachable-leads From e = reachable-walk f x lx y e
    reachable-leads To e = reachable-walk f y ly x e

    pub leads-reachable : (dir : Direction) → Leads dir (read limit ws) x y → oriented dir (reachable (read limit ws)) x y ≡ true
    leads-reachable From a = walk-reachable f x lx y a
    leads-reachable To a = walk-reachable f y ly x a

  number-live : (k : ℕ) → k < vertex_count ws → is_live (live_vertices (read limit ws)) (number_of (read limit ws) k) ≡ true
  number-live k h = memb-getD (live_vertices (read limit ws)) k (rw (live-length limit ws) h)

  -- ---- the search: n is what `vertex_count` returned, m what `matrix_along` made, seen what `reach_from` marked

  module _ (dir : Direction) {m : List ℕ} (w : Holds (steps_along dir (read limit ws)) (vertex_count ws) m) (n : ℕ) (e : n ≡ vertex_count ws)
      (i : ℕ) (hi : i < vertex_count ws) (seen : List ℕ) (s : Reached (matrix m) n i seen) where
    edges : {k : ℕ} → Reach (Edge (matrix m) n) i k → Reach (Edge (matrix m) (vertex_count ws)) i k
    edges {k} a = subst (λ (c : ℕ). Reach (Edge (matrix m) c) i k) e a

    found : {k : ℕ} → k < vertex_count ws → Leads dir (read limit ws) (number_of (read limit ws) i) (number_of (read limit ws) k) → Reach (Edge (matrix m) n) i k
    found {k} h a =
        rw e (reach-records f (oriented dir (has_step (read limit ws))) (among dir) (matrix m) (holds-agrees f (oriented dir (has_step (read limit ws))) w) i k hi h (leads-along dir a))

    led : {k : ℕ} → Reach (Edge (matrix m) n) i k → Leads dir (read limit ws) (number_of (read limit ws) i) (number_of (read limit ws) k)
    led a =
        along-leads dir (reach-numbers f (oriented dir (has_step (read limit ws))) (among dir) (matrix m) (holds-agrees f (oriented dir (has_step (read limit ws))) w) (edges a))

    pub seen-along : SeenAlong dir ws i seen
    seen-along k h =
        on (oriented dir (reachable (read limit ws)) (number_of (read limit ws) i) (number_of (read limit ws) k))
        (λ q. s.yes k (rw e h) (found h (reachable-leads (number_of (read limit ws) i) (number_of (read limit ws) k) (number-live i hi) (number-live k h) dir q)) ∙ sym (ap bit q))
        (λ q. s.no k (rw e h) (λ a. clash (leads-reachable (number_of (read limit ws) i) (number_of (read limit ws) k) (number-live i hi) (number-live k h) dir (led a)) q) ∙ sym (ap bit q))
