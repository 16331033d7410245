-- The closure by record is the closure of the content; what its pairs are; and what the code answers. Assumes nothing.
use mathlib.Core.Path.{◌≡◌, refl, sym, ap, ap₂, ◌∙◌}
use mathlib.Core.Bool.{Bool, true, not}
use mathlib.Core.List.{List, map}
use Prim.Native.Nat.{ℕ, ◌<◌}
use lib.Dec.{eqb}
use borrow.Author.Tests.{eq-eqb, ne_eqb, eqb-true, not-true}
use Rattle.lists.specs.Tests.{◌and◌}
use Rattle.lists.specs.Lists.{memb, filter, flat, tab, up_to}
use Rattle.lists.proofs.Cases.{clash, test-ext, and_left, and_right, and_both}
use Rattle.lists.proofs.Tab.{map-tab}
use Rattle.lists.proofs.Flat.{tab-getD}
use Rattle.lists.proofs.Filter.{filter-tab}
use Rattle.lists.proofs.Kept.{memb-filter}
use Rattle.lists.proofs.Memb.{memb-getD}
use Rattle.walks.specs.Walks.{Reach}
use Rattle.layout.specs.Content.{live_vertices, is_live}
use Rattle.layout.specs.Layout.{limit, vertex_count, read}
use Rattle.layout.specs.Inner.{Formed}
use Rattle.layout.specs.Answers.{Result, listed}
use Rattle.layout.specs.Steps.{has_step, StepIn}
use Rattle.layout.proofs.Read.{live-length}
use Rattle.graph.specs.Reach.{matrix}
use Rattle.graph.proofs.Bfs.{bfs-sound, bfs-complete}
use Rattle.steps.specs.Matrices.{number_of, steps_between}
use Rattle.steps.specs.Inner.{Holds}
use Rattle.steps.proofs.Among.{steps-among}
use Rattle.steps.proofs.Records.{record-once, reach-numbers, reach-records}
use Rattle.traversal.specs.Traversal.{reachable}
use Rattle.traversal.proofs.Walks.{reachable-walk, walk-reachable}
use Rattle.components.specs.Classes.{reached}
use Rattle.components.proofs.Blocks.{flat_map, blocks-ext}
use Rattle.closure.specs.Pairs.{apart, seconds_of, row_words, pairs_words}
use Rattle.closure.specs.State.{Closure}
use Rattle.closure.proofs.Closing.{closure-matrix}
use Rattle.closure.proofs.Pairs.{pairs-ext}
use Rattle.structural.specs.Closure.{reaches_other, seconds, pair_of, pairs_from, closure_of, closure_result}
use Rattle.structural.proofs.ComponentsAnswers.{reached-ext}

-- the live vertices are the numbers of the records
pub live-numbers : (ws : List ℕ) → map (number_of (read limit ws)) (up_to (vertex_count ws)) ≡ live_vertices (read limit ws)
live-numbers ws =
    map-tab (number_of (read limit ws)) (λ i. i) (vertex_count ws) ∙ ap (tab (number_of (read limit ws))) (sym (live-length limit ws)) ∙ tab-getD (live_vertices (read limit ws)) 0

pub record-live : (ws : List ℕ) (i : ℕ) → i < vertex_count ws → is_live (live_vertices (read limit ws)) (number_of (read limit ws) i) ≡ true
record-live ws i l = memb-getD (live_vertices (read limit ws)) i (rw (live-length limit ws) l)

module _ {ws : List ℕ} (f : Formed limit ws) where
  -- what is reached by record is what is reachable by number
  reached-number : (x y : ℕ) → x < vertex_count ws → y < vertex_count ws → reached (steps_between (read limit ws)) (vertex_count ws) x y ≡ reachable (read limit ws) (number_of (read limit ws) x) (number_of (read limit ws) y)
  reached-number x y lx ly =
      test-ext _ _
      (λ e.
      walk-reachable f (number_of (read limit ws) x) (record-live ws x lx) (number_of (read limit ws) y)
      (reach-numbers f (has_step (read limit ws)) (steps-among (read limit ws) f.content) (steps_between (read limit ws)) (λ i j _ _. refl) (bfs-sound (steps_between (read limit ws)) (vertex_count ws) x lx y e)))
      (λ e.
      bfs-complete (steps_between (read limit ws)) (vertex_count ws) x lx y
      (reach-records f (has_step (read limit ws)) (steps-among (read limit ws) f.content) (steps_between (read limit ws)) (λ i j _ _. refl) x y lx ly
      (reachable-walk f (number_of (read limit ws) x) (record-live ws x lx) (number_of (read limit ws) y) e)))

  same_number : (x y : ℕ) → x < vertex_count ws → y < vertex_count ws → eqb x y ≡ eqb (number_of (read limit ws) x) (number_of (read limit ws) y)
  same_number x y lx ly =
      test-ext _ _
      (λ e. eq-eqb (number_of (read limit ws) x) (number_of (read limit ws) y) (ap (number_of (read limit ws)) (eqb-true x y e)))
      (λ e. eq-eqb x y (record-once f x y lx ly (eqb-true (number_of (read limit ws) x) (number_of (read limit ws) y) e)))

  other-number : (x y : ℕ) → x < vertex_count ws → y < vertex_count ws
      → apart (reached (steps_between (read limit ws)) (vertex_count ws)) x y ≡ reaches_other (read limit ws) (number_of (read limit ws) x) (number_of (read limit ws) y)
  unfolding apart reaches_other
  other-number x y lx ly = ap₂ (λ (a b : Bool). not a and b) (same_number x y lx ly) (reached-number x y lx ly)

  row-numbers : (x : ℕ) → x < vertex_count ws
      → row_words (number_of (read limit ws)) (reached (steps_between (read limit ws)) (vertex_count ws)) (vertex_count ws) x ≡ pairs_from (read limit ws) (number_of (read limit ws) x)
  unfolding row_words
  row-numbers x l =
      let g : ℕ → ℕ = number_of (read limit ws) in
      let P : ℕ → ℕ → Bool = reached (steps_between (read limit ws)) (vertex_count ws) in
      sym (flat_map (pair_of (g x)) g (seconds_of P (vertex_count ws) x))
      ∙ ap (flat (pair_of (g x))) (filter-tab (reaches_other (read limit ws) (g x)) (apart P x) g (vertex_count ws) (λ k h. other-number x k l h)
      ∙ ap (filter (reaches_other (read limit ws) (g x))) (sym (map-tab g (λ i. i) (vertex_count ws)) ∙ live-numbers ws))

  closure-numbers : pairs_words (number_of (read limit ws)) (reached (steps_between (read limit ws)) (vertex_count ws)) (vertex_count ws) ≡ closure_of (read limit ws)
  unfolding closure_of
  closure-numbers =
      let g : ℕ → ℕ = number_of (read limit ws) in
      let P : ℕ → ℕ → Bool = reached (steps_between (read limit ws)) (vertex_count ws) in
      blocks-ext (row_words g P (vertex_count ws)) (λ x. pairs_from (read limit ws) (g x)) (vertex_count ws) row-numbers
      ∙ sym (flat_map (pairs_from (read limit ws)) g (up_to (vertex_count ws))) ∙ ap (flat (pairs_from (read limit ws))) (live-numbers ws)

  -- n is what `vertex_count` found, m what `step_matrix` made, c what `close` made, r what `list_pairs` gives
  pub closure-listed : {m : List ℕ} → Holds (steps_between (read limit ws)) (vertex_count ws) m → (n : ℕ) → n ≡ vertex_count ws → {c : List ℕ} → Closure (matrix m) n n c
      → (lent : List ℕ) (r : Result) → r ≡ listed (pairs_words (number_of (read limit ws)) (matrix c) n) lent → r ≡ closure_result lent (read limit ws)
  unfolding closure_result
  closure-listed {m} w n e {c} h lent r q =
      let g : Closure (matrix m) (vertex_count ws) (vertex_count ws) c = rw e at h in
      q ∙ rw e (ap (λ (x : List ℕ). listed x lent)
      (pairs-ext (number_of (read limit ws)) (matrix c) (reached (steps_between (read limit ws)) (vertex_count ws)) (vertex_count ws)
      (λ i j li lj. closure-matrix g i j li lj ∙ reached-ext f (steps_between (read limit ws)) w i j li)
      ∙ closure-numbers))

  -- ---- a pair is listed exactly where x is not y, both are live, and a walk leads from x to y

  module _ (x : ℕ) (l : is_live (live_vertices (read limit ws)) x ≡ true) (y : ℕ) where
    pub pair-walk : memb y (seconds (read limit ws) x) ≡ true → (x ≡ y → ⊥) × (is_live (live_vertices (read limit ws)) y ≡ true) × Reach (StepIn (read limit ws)) x y
    unfolding reaches_other
    pair-walk e =
        let a : (reaches_other (read limit ws) x y and memb y (live_vertices (read limit ws))) ≡ true = sym (memb-filter (reaches_other (read limit ws) x) y (live_vertices (read limit ws))) ∙ e in
        let b : reaches_other (read limit ws) x y ≡ true = and_left (reaches_other (read limit ws) x y) (memb y (live_vertices (read limit ws))) a in (
          (λ s. clash (eq-eqb x y s) (not-true (eqb x y) (and_left (not (eqb x y)) (reachable (read limit ws) x y) b))),
          and_right (reaches_other (read limit ws) x y) (memb y (live_vertices (read limit ws))) a,
          reachable-walk f x l y (and_right (not (eqb x y)) (reachable (read limit ws) x y) b),
        )

    pub walk_pair : (x ≡ y → ⊥) → is_live (live_vertices (read limit ws)) y ≡ true → Reach (StepIn (read limit ws)) x y → memb y (seconds (read limit ws) x) ≡ true
    unfolding reaches_other
    walk_pair ne ly w =
        memb-filter (reaches_other (read limit ws) x) y (live_vertices (read limit ws))
        ∙ and_both (reaches_other (read limit ws) x y) (memb y (live_vertices (read limit ws)))
        (and_both (not (eqb x y)) (reachable (read limit ws) x y) (rw (ne_eqb x y ne)) (walk-reachable f x l y w)) ly
