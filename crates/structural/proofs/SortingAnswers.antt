-- What the code finds of the sort, and what it answers. Assumes nothing.
use Rattle.std.specs.Prelude.{Ok, Err}
use mathlib.Core.Path.{◌≡◌, sym, ◌∙◌, subst}
use mathlib.Core.Bool.{Bool, true, false, not}
use mathlib.Core.List.{List, [], map}
use Prim.Native.Nat.{ℕ}
use native.Mathlib.Omega.{arith}
use lib.ListN.{take}
use borrow.Author.Tests.{not-true, not-false}
use Rattle.lists.specs.Lists.{is_below}
use Rattle.lists.proofs.Cases.{on}
use Rattle.layout.specs.declared.Refusal.TheVariants.{ClosedWalk}
use Rattle.layout.specs.Layout.{limit, vertex_count, read}
use Rattle.layout.specs.Inner.{Formed}
use Rattle.layout.specs.Answers.{Result, result_of, listed}
use Rattle.layout.specs.Steps.{has_step}
use Rattle.layout.proofs.Read.{live-length}
use Rattle.graph.specs.Reach.{matrix, Edge}
use Rattle.order.specs.Sort.{Smallest}
use Rattle.order.specs.Post.{Sorted}
use Rattle.order.proofs.Greedy.{greedy-below, greedy-sorts}
use Rattle.order.proofs.Smallest.{smallest-unique, smallest-as}
use Rattle.steps.specs.Matrices.{number_of, steps_between}
use Rattle.steps.specs.Inner.{Holds}
use Rattle.steps.specs.Ordered.{Ordered}
use Rattle.steps.proofs.Among.{steps-among}
use Rattle.steps.proofs.Numbers.{ordered-take}
use Rattle.steps.proofs.Records.{holds-agrees, closed-numbers}
use Rattle.structural.specs.Sort.{sort_of, acyclic, sort_result, acyclic_result}
use Rattle.structural.specs.Sorted.{SortedRecords}
use Rattle.structural.proofs.SortingRecords.{smallest-numbers}
use Rattle.structural.proofs.Sorting.{all_placed, closed-refused, smallest-acyclic}

-- ---- records: m is what `step_matrix` made, n what `vertex_count` found, r and o what `sort` gave

module _ {ws : List ℕ} (f : Formed limit ws) {m : List ℕ} (w : Holds (steps_between (read limit ws)) (vertex_count ws) m) where
  smallest-records : {l : List ℕ} → Smallest (is_below (vertex_count ws)) (Edge (matrix m) (vertex_count ws)) l
      → Smallest (is_below (vertex_count ws)) (Edge (steps_between (read limit ws)) (vertex_count ws)) l
  smallest-records s =
      let ag = holds-agrees f (has_step (read limit ws)) w in
      smallest-as
      (λ x y e. (e.0, e.1, sym (ag x y e.0 e.1) ∙ e.2))
      (λ x y e. (e.0, e.1, ag x y e.0 e.1 ∙ e.2))
      s

  sorted-here : {r : Bool} {o : List ℕ} → Sorted (matrix m) (vertex_count ws) r o → SortedRecords ws r o
  sorted-here {r} {o} s =
      let n : ℕ = vertex_count ws in
      let E : ℕ → ℕ → Bool = steps_between (read limit ws) in
      let yes : r ≡ true → acyclic (read limit ws) ≡ true = λ e. smallest-acyclic f _ (smallest-numbers f (smallest-records (s.done e))) in
      let no : r ≡ false → acyclic (read limit ws) ≡ false = λ e.
      closed-refused f (closed-numbers f (has_step (read limit ws)) (steps-among (read limit ws) f.content) (matrix m) (holds-agrees f (has_step (read limit ws)) w) (s.refused e)) in
      record {
        is = on r (λ e. e ∙ sym (yes e)) (λ e. e ∙ sym (no e));
        listing = λ e. record {
          first = smallest-unique (smallest-records (s.done e)) (greedy-sorts E n (all_placed ws (yes e)));
          count = sym (all_placed ws (yes e));
          short = omega arith;
          below = greedy-below E n;
        };
      }

  pub sorted-records : (n : ℕ) → n ≡ vertex_count ws → (r : Bool) (o : List ℕ) → Sorted (matrix m) n r o → SortedRecords ws r o
  sorted-records n e r o s = sorted-here (subst (λ (k : ℕ). Sorted (matrix m) k r o) e s)

-- ---- answers: found and order are what `sort_records` gave

module _ (ws : List ℕ) (found : Bool) (order : List ℕ) (s : SortedRecords ws found order) where
  pub sort-refused : (lent : List ℕ) → not found ≡ true → result_of (Err ClosedWalk) lent ≡ sort_result lent (read limit ws)
  unfolding sort_result
  sort-refused lent h = rw (← s.is, not-true found h)

  pub sort-ordered : (c : ℕ) → c ≡ vertex_count ws → not found ≡ false → Ordered (vertex_count ws) c order (take c order)
  sort-ordered c e h = rw e (ordered-take (s.listing (not-false found h)))

  pub sort-listed : (c : ℕ) → c ≡ vertex_count ws → (lent : List ℕ) (r : Result) → not found ≡ false
      → r ≡ listed (map (number_of (read limit ws)) (take c order)) lent → r ≡ sort_result lent (read limit ws)
  unfolding sort_result sort_of
  sort-listed c e lent r h q =
      rw (← s.is, not-false found h, live-length limit ws) (q ∙ rw (e, (s.listing (not-false found h)).first))

  pub acyclic-yes : found ≡ true → result_of (Ok 1) [] ≡ acyclic_result (read limit ws)
  unfolding acyclic_result
  acyclic-yes h = rw (← s.is, h)

  pub acyclic-no : found ≡ false → result_of (Ok 0) [] ≡ acyclic_result (read limit ws)
  unfolding acyclic_result
  acyclic-no h = rw (← s.is, h)
