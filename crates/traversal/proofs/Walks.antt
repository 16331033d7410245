-- What a search lists is what walks along steps lead to, each vertex once; what is reached is the same. Assumes nothing.
use mathlib.Core.Path.{◌≡◌, refl, sym, subst}
use mathlib.Core.Bool.{true}
use mathlib.Core.List.{List, map}
use Prim.Native.Nat.{ℕ, ◌≤◌, ◌<◌}
use Rattle.lists.specs.Lists.{memb, Distinct}
use Rattle.lists.proofs.Memb.{below-memb}
use Rattle.walks.specs.Walks.{Reach, here, step}
use Rattle.layout.specs.Content.{live_vertices, is_live}
use Rattle.layout.specs.Layout.{limit, vertex_limit, vertex_count, read}
use Rattle.layout.specs.Inner.{Formed}
use Rattle.layout.specs.Steps.{has_step, StepIn}
use Rattle.layout.proofs.Position.{position_here}
use Rattle.layout.proofs.Read.{live-length, live-ascends}
use Rattle.steps.specs.Matrices.{number_of, steps_between}
use Rattle.steps.proofs.Among.{steps-among}
use Rattle.steps.proofs.Records.{record-once, record_of_lem, reach-numbers, reach-records}
use Rattle.traversal.specs.declared.Order.{Order}
use Rattle.traversal.specs.declared.Order.TheVariants.{BreadthFirst}
use Rattle.traversal.specs.Traversal.{search_of, list_from, traversal, reachable}
use Rattle.traversal.proofs.Mapped.{memb-map, map-memb, distinct-map}
use Rattle.traversal.proofs.Searches.{search-once, search-below, search-sound, search-complete}

module _ {ws : List ℕ} (f : Formed limit ws) (x : ℕ) (l : is_live (live_vertices (read limit ws)) x ≡ true) where
  pub start : (i : ℕ) × (i < vertex_count ws) × (number_of (read limit ws) i ≡ x)
  start = record_of_lem ws x l

  small : vertex_count ws ≤ vertex_limit
  small = f.shape.vertices-le

  -- the records that the search lists
  unfoldable pub records : Order → List ℕ
  records how = search_of how (steps_between (read limit ws)) (vertex_count ws) start.0

  pub traversal-records : (how : Order) → traversal how (read limit ws) x ≡ map (number_of (read limit ws)) (records how)
  unfolding traversal list_from records
  traversal-records how =
      rw (← position_here x (live_vertices (read limit ws)) start.0 (live-ascends limit ws f) (rw live-length start.1) start.2, live-length limit ws)

  pub records-below : (how : Order) (k : ℕ) → memb k (records how) ≡ true → k < vertex_count ws
  unfolding records
  records-below how = below-memb (vertex_count ws) (records how) (search-below how (steps_between (read limit ws)) (vertex_count ws) start.0 small start.1)

  -- each vertex that is listed is reached
  pub traversal-sound : (how : Order) (y : ℕ) → memb y (traversal how (read limit ws) x) ≡ true → Reach (StepIn (read limit ws)) x y
  unfolding records
  traversal-sound how y e =
      let r = map-memb (number_of (read limit ws)) y (records how) (rw (traversal-records how) at e) in
      let w = search-sound how (steps_between (read limit ws)) (vertex_count ws) start.0 small start.1 r.0 r.1 in
      let a : Reach (StepIn (read limit ws)) (number_of (read limit ws) start.0) (number_of (read limit ws) r.0) =
      reach-numbers f (has_step (read limit ws)) (steps-among (read limit ws) f.content) (steps_between (read limit ws)) (λ i j _ _. refl) w in
      subst (λ (z : ℕ). Reach (StepIn (read limit ws)) x z) r.2 (subst (λ (z : ℕ). Reach (StepIn (read limit ws)) z (number_of (read limit ws) r.0)) start.2 a)

  pub end_live : {z : ℕ} → Reach (StepIn (read limit ws)) x z → is_live (live_vertices (read limit ws)) z ≡ true
  end_live here = l
  end_live (step {y = u} {z = v} a r) = (steps-among (read limit ws) f.content u v r).1

  -- each vertex that is reached is listed
  pub traversal-complete : (how : Order) (y : ℕ) → Reach (StepIn (read limit ws)) x y → memb y (traversal how (read limit ws) x) ≡ true
  unfolding records
  traversal-complete how y a =
      let e = record_of_lem ws y (end_live a) in
      let b : Reach (StepIn (read limit ws)) (number_of (read limit ws) start.0) (number_of (read limit ws) e.0) =
      subst (λ (z : ℕ). Reach (StepIn (read limit ws)) z (number_of (read limit ws) e.0)) (sym start.2) (subst (λ (z : ℕ). Reach (StepIn (read limit ws)) x z) (sym e.2) a) in
      let w = reach-records f (has_step (read limit ws)) (steps-among (read limit ws) f.content) (steps_between (read limit ws)) (λ i j _ _. refl) start.0 e.0 start.1 e.1 b in
      rw (traversal-records how, ← e.2) (memb-map (number_of (read limit ws)) e.0 (records how) (search-complete how (steps_between (read limit ws)) (vertex_count ws) start.0 small start.1 e.0 w))

  -- and no vertex twice
  pub traversal-once : (how : Order) → Distinct (traversal how (read limit ws) x)
  unfolding records
  traversal-once how =
      rw (traversal-records how)
      (distinct-map (number_of (read limit ws)) (records how) (λ i j p q e. record-once f i j (records-below how i p) (records-below how j q) e)
      (search-once how (steps_between (read limit ws)) (vertex_count ws) start.0 small start.1))

  pub reachable-walk : (y : ℕ) → reachable (read limit ws) x y ≡ true → Reach (StepIn (read limit ws)) x y
  unfolding reachable
  reachable-walk y e = traversal-sound BreadthFirst y e

  pub walk-reachable : (y : ℕ) → Reach (StepIn (read limit ws)) x y → reachable (read limit ws) x y ≡ true
  unfolding reachable
  walk-reachable y a = traversal-complete BreadthFirst y a

  -- true of a vertex and itself
  pub reachable-self : reachable (read limit ws) x x ≡ true
  reachable-self = walk-reachable x here
