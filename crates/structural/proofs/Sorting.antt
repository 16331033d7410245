-- What is computed is the sort, on vertex numbers: it fails exactly where steps form a closed walk, and otherwise it is the smallest
-- order of live vertices in which every step goes forward. Assumes nothing.
use Rattle.std.specs.Prelude.{Ok, Err}
use mathlib.Core.Path.{◌≡◌, refl, sym, ap, ◌∙◌, subst}
use mathlib.Core.Bool.{true, false}
use mathlib.Core.Logic.{◌⊎◌, inl, inr, ⊎_elim}
use mathlib.Core.List.{List, [], map}
use Prim.Native.Nat.{ℕ}
use native.Mathlib.Omega.{arith}
use lib.Dec.{leb}
use lib.ListN.{length}
use borrow.Author.Tests.{eqb-true, eqb-false}
use Rattle.lists.proofs.Cases.{on}
use Rattle.lists.proofs.Maps.{map-length}
use Rattle.layout.specs.declared.Refusal.TheVariants.{ClosedWalk}
use Rattle.layout.specs.Answers.{Result, result_of, listed}
use Rattle.layout.specs.Layout.{limit, vertex_count, read}
use Rattle.layout.specs.Inner.{Formed}
use Rattle.layout.specs.Steps.{has_step}
use Rattle.layout.proofs.Read.{live-length}
use Rattle.order.specs.Greedy.{greedy}
use Rattle.order.proofs.Greedy.{greedy-short, greedy-sorts, greedy-fails}
use Rattle.order.proofs.Smallest.{smallest-unique, forward-open}
use Rattle.steps.specs.Matrices.{number_of, steps_between}
use Rattle.steps.proofs.Among.{steps-among}
use Rattle.steps.proofs.Records.{closed-numbers}
use Rattle.structural.specs.Sort.{SmallestIn, ClosedIn, sort_of, acyclic, sort_result, acyclic_result}
use Rattle.structural.proofs.SortingRecords.{smallest-numbers}

-- how many records were placed
placed : (ws : List ℕ) → length (sort_of (read limit ws)) ≡ length (greedy (steps_between (read limit ws)) (vertex_count ws))
unfolding sort_of
placed ws = rw (map-length, live-length limit ws)

pub all_placed : (ws : List ℕ) → acyclic (read limit ws) ≡ true → length (greedy (steps_between (read limit ws)) (vertex_count ws)) ≡ vertex_count ws
unfolding acyclic
all_placed ws e = sym (placed ws) ∙ eqb-true _ _ e ∙ live-length limit ws

module _ {ws : List ℕ} (f : Formed limit ws) where
  -- where a vertex could not be placed, steps form a closed walk
  pub refused-closed : acyclic (read limit ws) ≡ false → ClosedIn (read limit ws)
  unfolding acyclic
  refused-closed e =
      let n = vertex_count ws in
      let E = steps_between (read limit ws) in
      let ne : length (greedy E n) ≡ n → ⊥ = λ q. eqb-false _ _ e (placed ws ∙ q ∙ sym (live-length limit ws)) in
      closed-numbers f (has_step (read limit ws)) (steps-among (read limit ws) f.content) E (λ i j _ _. refl)
      (greedy-fails E n (omega (arith, ne, greedy-short E n)))

  -- where every vertex could be placed, what is computed is the smallest order
  pub sort-smallest : acyclic (read limit ws) ≡ true → SmallestIn (read limit ws) (sort_of (read limit ws))
  unfolding sort_of
  sort-smallest e =
      subst (λ (n : ℕ). SmallestIn (read limit ws) (map (number_of (read limit ws)) (greedy (steps_between (read limit ws)) n))) (sym (live-length limit ws))
      (smallest-numbers f (greedy-sorts (steps_between (read limit ws)) (vertex_count ws) (all_placed ws e)))

  -- beside a closed walk there is no order, so none is the smallest
  pub closed_none : ClosedIn (read limit ws) → (l : List ℕ) → SmallestIn (read limit ws) l → ⊥
  closed_none c l s = forward-open (steps-among (read limit ws) f.content) s.order c

  -- where steps form a closed walk, a vertex could not be placed
  pub closed-refused : ClosedIn (read limit ws) → acyclic (read limit ws) ≡ false
  closed-refused c = on (acyclic (read limit ws)) (λ e. absurd (closed_none c _ (sort-smallest e))) (λ e. e)

  -- where there is a smallest order, every vertex could be placed, and the order is what is computed
  pub smallest-acyclic : (l : List ℕ) → SmallestIn (read limit ws) l → acyclic (read limit ws) ≡ true
  smallest-acyclic l s = on (acyclic (read limit ws)) (λ e. e) (λ e. absurd (closed_none (refused-closed e) l s))

  pub smallest-sort : (l : List ℕ) → SmallestIn (read limit ws) l → l ≡ sort_of (read limit ws)
  smallest-sort l s = smallest-unique s (sort-smallest (smallest-acyclic l s))

  -- ---- the answers: one of the two holds, and each has its answers

  pub closed-or-smallest : ClosedIn (read limit ws) ⊎ ((l : List ℕ) × SmallestIn (read limit ws) l)
  closed-or-smallest = on (acyclic (read limit ws)) (λ e. inr (sort_of (read limit ws), sort-smallest e)) (λ e. inl (refused-closed e))

  -- steps form a closed walk: 9, with room for an answer or not
  pub closed-answers : (lent : List ℕ) → ClosedIn (read limit ws)
      → (sort_result lent (read limit ws) ≡ result_of (Err ClosedWalk) lent) × (acyclic_result (read limit ws) ≡ result_of (Ok 0) [])
  unfolding sort_result acyclic_result
  closed-answers lent c = (rw (closed-refused c), rw (closed-refused c))

  -- l is the smallest order: l, or 11 with its length
  pub smallest-answers : (lent l : List ℕ) → SmallestIn (read limit ws) l
      → (sort_result lent (read limit ws) ≡ listed l lent) × (acyclic_result (read limit ws) ≡ result_of (Ok 1) [])
  unfolding sort_result acyclic_result
  smallest-answers lent l s = (rw (smallest-acyclic l s, ← smallest-sort l s), rw (smallest-acyclic l s))

  -- 9 only where steps form a closed walk
  pub nine-closed : (lent : List ℕ) → (sort_result lent (read limit ws)).number ≡ 9 → ClosedIn (read limit ws)
  unfolding listed
  nine-closed lent e = ⊎_elim
      (λ c. c)
      (λ s.
      let r : (listed s.0 lent).number ≡ 9 = ap (λ (a : Result). a.number) (sym (smallest-answers lent s.0 s.1).0) ∙ e in
      on (leb (length s.0) (length lent))
      (λ h. absurd (let z : ◌≡◌ {A = ℕ} 0 9 = rw h at r in omega arith))
      (λ h. absurd (let z : ◌≡◌ {A = ℕ} 11 9 = rw h at r in omega arith)))
      closed-or-smallest
