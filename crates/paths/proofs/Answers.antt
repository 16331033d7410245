-- Which answer applies, from what the code found. Assumes nothing.
use Rattle.std.specs.Prelude.{Option, Some, Err, ok_or, IsErrAnd}
use mathlib.Core.Path.{◌≡◌, sym, ap, ◌∙◌}
use mathlib.Core.Bool.{Bool, true, false, not}
use mathlib.Core.List.{List, ◌++◌}
use Prim.Native.Nat.{ℕ, ◌+◌, ◌<◌}
use lib.ListN.{take}
use Rattle.layout.specs.Content.{live_vertices, position}
use Rattle.layout.specs.Layout.{limit, vertex_count, hyperedge_count, read}
use Rattle.layout.specs.Inner.{Formed}
use Rattle.layout.specs.declared.Refusal.{Refusal}
use Rattle.layout.specs.Answers.{Answer, Result, result_of, on_live, listed, vertex_missing}
use Rattle.layout.proofs.Answers.{untaken, refused-by}
use Rattle.layout.proofs.Position.{position-found, found-live, missing-dead}
use Rattle.layout.proofs.Read.{vertex-found}
use Rattle.distance.specs.Cost.{step_back, cost_back}
use Rattle.distance.specs.Descent.{Pair}
use Rattle.steps.specs.Matrices.{number_of}
use Rattle.paths.specs.Paths.{costs_from, pair_result, from_result}
use Rattle.paths.specs.Choices.{Weights, Chosen}
use Rattle.paths.specs.Written.{pair_between, no_path, path_head, step_words}
use Rattle.paths.proofs.Numbers.{pair-none, pair-some}

-- what `list_none` and `list_walk` answer
module _ {ws : List ℕ} (f : Formed limit ws) (w : List ℕ) (hw : Weights (read limit ws) (hyperedge_count ws) w) (c : List ℕ) (hc : Chosen true ws c)
    (i j : ℕ) (hi : i < vertex_count ws) (hj : j < vertex_count ws) (n : ℕ) (en : n ≡ vertex_count ws)
    (found : Bool) (cost steps : ℕ) (o : List ℕ) (p : Pair (step_back c) (cost_back c w) n i j found cost steps o) (out : List ℕ) (r : Result) where
  pub none-answer : not found ≡ true → r ≡ listed no_path out → r ≡ listed (pair_between (read limit ws) i j) out
  none-answer e q = q ∙ ap (λ (xs : List ℕ). listed xs out) (sym (pair-none f w hw c hc i j hi hj n en found cost steps o p e))

  pub walk-answer : not found ≡ false
      → r ≡ listed (path_head cost (steps + 1) (number_of (read limit ws) i) ++ step_words (read limit ws) i (take steps o)) out → r ≡ listed (pair_between (read limit ws) i j) out
  walk-answer e q = q ∙ ap (λ (xs : List ℕ). listed xs out) (sym (pair-some f w hw c hc i j hi hj n en found cost steps o p e))

-- a record that was found: p is what `find_vertex` found of x
module _ (ws : List ℕ) (x : ℕ) where
  pub record-below : (i : ℕ) → position x (live_vertices (read limit ws)) ≡ Some i → i < vertex_count ws
  record-below i e = (vertex-found limit ws x i e).0

  pub found_below : (p : Option ℕ) → p ≡ position x (live_vertices (read limit ws)) → (i : ℕ) → p ≡ Some i → i < vertex_count ws
  found_below p e i h = record-below i (sym e ∙ h)

  number-of : (i : ℕ) → position x (live_vertices (read limit ws)) ≡ Some i → number_of (read limit ws) i ≡ x
  number-of i e = (position-found x (live_vertices (read limit ws)) i e).1

-- the costs from x
module _ (ws : List ℕ) (x : ℕ) (p : Option ℕ) (e : p ≡ position x (live_vertices (read limit ws))) (lent : List ℕ) where
  pub start-found : (i : ℕ) (r : Result) → p ≡ Some i → r ≡ listed (costs_from (read limit ws) (number_of (read limit ws) i)) lent → r ≡ from_result x lent (read limit ws)
  unfolding from_result on_live
  start-found i r h q =
      rw (found-live x (live_vertices (read limit ws)) i (sym e ∙ h)) (q ∙ ap (λ (z : ℕ). listed (costs_from (read limit ws) z) lent) (number-of ws x i (sym e ∙ h)))

-- the pair x and y: p is what `find_vertex` found of x, or of y
module _ (ws : List ℕ) (x y : ℕ) (lent : List ℕ) where
  pub first-missing : (p : Option ℕ) → p ≡ position x (live_vertices (read limit ws)) → (z : Refusal) (q : Answer) → q ≡ ok_or p z
      → (f : Refusal) (r : Answer) → q ≡ Err f → IsErrAnd r (λ a. a ≡ f) → Err z ≡ vertex_missing x → result_of r lent ≡ pair_result x y lent (read limit ws)
  unfolding pair_result on_live
  first-missing p e z q made f r h by s =
      rw (refused-by p z q made f r h by ∙ s, missing-dead x (live_vertices (read limit ws)) (sym e ∙ untaken p z q made f h))

  module _ (i : ℕ) (ei : position x (live_vertices (read limit ws)) ≡ Some i) (p : Option ℕ) (e : p ≡ position y (live_vertices (read limit ws))) where
    pub second-missing : (z : Refusal) (q : Answer) → q ≡ ok_or p z → (f : Refusal) (r : Answer) → q ≡ Err f → IsErrAnd r (λ a. a ≡ f) → Err z ≡ vertex_missing y
        → result_of r lent ≡ pair_result x y lent (read limit ws)
    unfolding pair_result on_live
    second-missing z q made f r h by s = rw (
      refused-by p z q made f r h by ∙ s,
      found-live x (live_vertices (read limit ws)) i ei,
      missing-dead y (live_vertices (read limit ws)) (sym e ∙ untaken p z q made f h),
    )

    pub both_found : (j : ℕ) (r : Result) → p ≡ Some j → r ≡ listed (pair_between (read limit ws) i j) lent → r ≡ pair_result x y lent (read limit ws)
    unfolding pair_result on_live
    both_found j r h q =
        rw (found-live x (live_vertices (read limit ws)) i ei, found-live y (live_vertices (read limit ws)) j (sym e ∙ h))
        (rw (number-of ws x i ei, number-of ws y j (sym e ∙ h)) at q)
