-- Breadth first lists by number of steps. Assumes nothing.
use mathlib.Core.Path.{◌≡◌, refl, sym, ap, ap₂, ◌∙◌, subst}
use mathlib.Core.Bool.{true}
use mathlib.Core.List.{List, [], ◌∷◌, map}
use Prim.Native.Nat.{ℕ, zero, suc, ◌≤◌, ◌<◌}
use native.Mathlib.Nat.{not-suc-le-zero, le_of_suc-le-suc}
use native.Mathlib.Omega.{arith}
use lib.ListN.{length, get_or}
use Rattle.lists.proofs.Maps.{map-length}
use Rattle.lists.proofs.Memb.{memb-getD}
use Rattle.layout.specs.Content.{live_vertices, is_live}
use Rattle.layout.specs.Layout.{limit, vertex_count, read}
use Rattle.layout.specs.Inner.{Formed}
use Rattle.layout.specs.Steps.{has_step, StepIn}
use Rattle.graph.specs.Reach.{Edge}
use Rattle.graph.specs.Walk.{ReachIn, start, onward, Least}
use Rattle.graph.proofs.Levels.{bfs-by-steps}
use Rattle.steps.specs.Matrices.{number_of, steps_between}
use Rattle.steps.proofs.Among.{steps-among}
use Rattle.steps.proofs.Records.{record-once, record_of_lem}
use Rattle.traversal.specs.declared.Order.TheVariants.{BreadthFirst}
use Rattle.traversal.specs.Traversal.{traversal}
use Rattle.traversal.proofs.Walks as walks

map_at : (f : ℕ → ℕ) (l : List ℕ) (i : ℕ) → i < length l → get_or (map f l) i 0 ≡ f (get_or l i 0)
map_at f [] i h = absurd (not-suc-le-zero h)
map_at f (x ∷ l) zero h = refl
map_at f (x ∷ l) (suc i) h = map_at f l i (le_of_suc-le-suc h)

module _ {ws : List ℕ} (f : Formed limit ws) where
  -- a walk between records is one between their numbers, of as many steps, and back
  walk-numbers : {i k j : ℕ} → ReachIn (Edge (steps_between (read limit ws)) (vertex_count ws)) i k j → ReachIn (StepIn (read limit ws)) (number_of (read limit ws) i) k (number_of (read limit ws) j)
  walk-numbers start = start
  walk-numbers (onward w e) = onward (walk-numbers w) e.2

  walk-records : {x k y : ℕ} → ReachIn (StepIn (read limit ws)) x k y → (i j : ℕ) → i < vertex_count ws → j < vertex_count ws → number_of (read limit ws) i ≡ x → number_of (read limit ws) j ≡ y
      → ReachIn (Edge (steps_between (read limit ws)) (vertex_count ws)) i k j
  walk-records start i j hi hj ei ej = subst (λ (z : ℕ). ReachIn (Edge (steps_between (read limit ws)) (vertex_count ws)) i zero z) (record-once f i j hi hj (ei ∙ sym ej)) start
  walk-records (onward {y = u} {z = v} w e) i j hi hj ei ej =
      let r = record_of_lem ws u (steps-among (read limit ws) f.content u v e).0 in
      onward (walk-records w i r.0 hi r.1 ei r.2) (r.1, hj, ap₂ (has_step (read limit ws)) r.2 ej ∙ e)

  -- of two vertices of the listing, the one that stands before the other is reached in no more steps
  pub breadth-by-steps : (x : ℕ) → is_live (live_vertices (read limit ws)) x ≡ true → (i j : ℕ) → i < j → j < length (traversal BreadthFirst (read limit ws) x) → (k m : ℕ)
      → Least (StepIn (read limit ws)) x (get_or (traversal BreadthFirst (read limit ws) x) i 0) k
      → Least (StepIn (read limit ws)) x (get_or (traversal BreadthFirst (read limit ws) x) j 0) m → k ≤ m
  unfolding walks.records
  breadth-by-steps x l i j h b k m p q =
      let s = walks.start f x l in
      let R : List ℕ = walks.records f x l BreadthFirst in
      let is : traversal BreadthFirst (read limit ws) x ≡ map (number_of (read limit ws)) R = walks.traversal-records f x l BreadthFirst in
      let c : j < length R = omega (arith, ap length is, map-length (number_of (read limit ws)) R) in
      let at : (e : ℕ) → e < length R → get_or (traversal BreadthFirst (read limit ws) x) e 0 ≡ number_of (read limit ws) (get_or R e 0) =
      λ e d. ap (λ (z : List ℕ). get_or z e 0) is ∙ map_at (number_of (read limit ws)) R e d in
      let low : get_or R j 0 < vertex_count ws = walks.records-below f x l BreadthFirst (get_or R j 0) (memb-getD R j c) in
      let w = walk-records q.walk s.0 (get_or R j 0) s.1 low s.2 (sym (at j c)) in
      let u = bfs-by-steps (steps_between (read limit ws)) (vertex_count ws) s.0 s.1 w i j (omega arith) c refl in
      let n : ReachIn (StepIn (read limit ws)) x u.0 (get_or (traversal BreadthFirst (read limit ws) x) i 0) =
      subst (λ (z : ℕ). ReachIn (StepIn (read limit ws)) x u.0 z) (sym (at i (omega arith)))
      (subst (λ (z : ℕ). ReachIn (StepIn (read limit ws)) z u.0 (number_of (read limit ws) (get_or R i 0))) s.2 (walk-numbers u.2)) in
      omega (arith, p.fewest u.0 n, u.1)
