-- The answers held to the property: the computed walk is the best one and no other is, its words give its count and its cost, and its total is bounded by its steps. Assumes nothing.
use mathlib.Core.Path.{◌≡◌, refl, ap, ◌∙◌}
use mathlib.Core.Bool.{true}
use mathlib.Core.List.{List, [], ◌∷◌}
use mathlib.Core.Option.{Option, none, some}
use Prim.Native.Nat.{ℕ, zero, suc, ◌+◌, ◌*◌, ◌≤◌, ◌<◌}
use native.Mathlib.Nat.{not-suc-le-zero, le_of_suc-le-suc}
use native.Mathlib.Omega.{arith}
use lib.ListN.{length, get_or}
use Rattle.lists.specs.Lists.{memb}
use Rattle.layout.specs.Content.{Table, live_vertices, is_live}
use Rattle.layout.specs.Layout.{limit, read}
use Rattle.layout.specs.Inner.{Formed}
use Rattle.layout.specs.Steps.{has_step, StepIn}
use Rattle.layout.proofs.Read.{live-length}
use Rattle.distance.specs.Best.{Walk, total, Best}
use Rattle.distance.proofs.Best.{best-sound, best-computed, best-short, none-sound, none-computed}
use Rattle.steps.proofs.Among.{steps-among}
use Rattle.paths.specs.Paths.{weight_by, choice, step_hyperedge, step_cost, best_path, entries_after, path_words}

-- no total passes the steps times the greatest weight
total-bound : (t : Table) (b u : ℕ) (l : List ℕ) → ((k : ℕ) → weight_by t k ≤ b) → total (step_cost t) u l ≤ length l * b
unfolding step_cost
total-bound t b u [] h = omega arith
total-bound t b u (v ∷ l) h = omega (arith, h (choice t u v), total-bound t b v l h)

module _ {ws : List ℕ} (f : Formed limit ws) (x y : ℕ) (live : is_live (live_vertices (read limit ws)) x ≡ true) where
  into : (u v : ℕ) → has_step (read limit ws) u v ≡ true → memb v (live_vertices (read limit ws)) ≡ true
  into u v e = (steps-among (read limit ws) f.content u v e).1

  -- what is computed is the best walk
  pub path-is-best : (l : List ℕ) → best_path (read limit ws) x y ≡ some l → Best (StepIn (read limit ws)) (step_cost (read limit ws)) x y l
  unfolding best_path
  path-is-best l e = best-sound (has_step (read limit ws)) (step_cost (read limit ws)) (live_vertices (read limit ws)) y into x live l e

  -- the best walk is what is computed
  pub best-is-path : (l : List ℕ) → Best (StepIn (read limit ws)) (step_cost (read limit ws)) x y l → best_path (read limit ws) x y ≡ some l
  unfolding best_path
  best-is-path l b = best-computed (has_step (read limit ws)) (step_cost (read limit ws)) (live_vertices (read limit ws)) y into x live l b

  -- none where there is no walk, and only then
  pub none-unreachable : best_path (read limit ws) x y ≡ none → (k : List ℕ) → Walk (StepIn (read limit ws)) x k y → ⊥
  unfolding best_path
  none-unreachable e k w = none-sound (has_step (read limit ws)) (step_cost (read limit ws)) (live_vertices (read limit ws)) y into x live e k w

  pub unreachable-none : ((k : List ℕ) → Walk (StepIn (read limit ws)) x k y → ⊥) → best_path (read limit ws) x y ≡ none
  unfolding best_path
  unreachable-none h = none-computed (has_step (read limit ws)) (step_cost (read limit ws)) (live_vertices (read limit ws)) y into x live h

  -- the best walk has at most 255 steps
  pub best-steps : (l : List ℕ) → Best (StepIn (read limit ws)) (step_cost (read limit ws)) x y l → length l ≤ 255
  best-steps l b =
      omega (arith, best-short (has_step (read limit ws)) (step_cost (read limit ws)) (live_vertices (read limit ws)) y into x live l b, live-length limit ws, f.shape.vertices-le)

  -- no cost passes 255 times 4,294,967,295, where no weight passes that
  pub cost-bound : ((k : ℕ) → weight_by (read limit ws) k ≤ 4294967295) → (l : List ℕ) → Best (StepIn (read limit ws)) (step_cost (read limit ws)) x y l
      → total (step_cost (read limit ws)) x l ≤ 255 * 4294967295
  cost-bound h l b = omega (arith, best-steps l b, total-bound (read limit ws) 4294967295 x l h)

-- ---- the words: count and cost are those of the entries

module _ (t : Table) (x : ℕ) where
  entries-count : (u : ℕ) (l : List ℕ) → length (entries_after t u l) ≡ length l * 2
  unfolding entries_after
  entries-count u [] = refl
  entries-count u (v ∷ l) = omega (arith, entries-count v l)

  -- the third word is the count of the entries, of two words each
  pub count-of-entries : (p : Option (List ℕ)) → length (path_words t x p) ≡ 3 + get_or (path_words t x p) 2 0 * 2
  unfolding path_words
  count-of-entries none = refl
  count-of-entries (some l) = omega (arith, entries-count x l)

  -- the first two words are the total of the least weights along the entries
  pub cost-of-entries : (l : List ℕ) → get_or (path_words t x (some l)) 0 0 + get_or (path_words t x (some l)) 1 0 * 4294967296 ≡ total (step_cost t) x l
  unfolding path_words
  cost-of-entries l = omega arith

  -- the entry of each step: its vertex, and the hyperedge of the step from the vertex before
  pub entry-vertex : (u : ℕ) (l : List ℕ) (k : ℕ) → k < length l → get_or (entries_after t u l) (k * 2) 0 ≡ get_or l k 0
  unfolding entries_after
  entry-vertex u [] k h = absurd (not-suc-le-zero h)
  entry-vertex u (v ∷ l) zero h = refl
  entry-vertex u (v ∷ l) (suc k) h =
      let e : suc k * 2 ≡ suc (suc (k * 2)) = omega arith in
      ap (λ (i : ℕ). get_or (entries_after t u (v ∷ l)) i 0) e ∙ entry-vertex v l k (le_of_suc-le-suc h)

  pub entry-hyperedge : (u : ℕ) (l : List ℕ) (k : ℕ) → k < length l → get_or (entries_after t u l) (k * 2 + 1) 0 ≡ step_hyperedge t (get_or (u ∷ l) k 0) (get_or l k 0)
  unfolding entries_after
  entry-hyperedge u [] k h = absurd (not-suc-le-zero h)
  entry-hyperedge u (v ∷ l) zero h = refl
  entry-hyperedge u (v ∷ l) (suc k) h =
      let e : suc k * 2 + 1 ≡ suc (suc (k * 2 + 1)) = omega arith in
      ap (λ (i : ℕ). get_or (entries_after t u (v ∷ l)) i 0) e ∙ entry-hyperedge v l k (le_of_suc-le-suc h)
