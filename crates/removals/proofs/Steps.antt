-- A step of what a list of removals leaves is a walk of one step or more of what was there before. Assumes nothing.
use mathlib.Core.Path.{◌≡◌, refl, sym, ap, ◌∙◌, subst₂}
use mathlib.Core.Bool.{Bool, true, ◌||◌}
use mathlib.Core.Logic.{⊎_elim}
use mathlib.Core.List.{List, [], ◌∷◌, map}
use Prim.Native.Nat.{ℕ}
use lib.Dec.{eqb}
use borrow.Author.Tests.{eqb-true, eq-eqb}
use Rattle.lists.specs.Lists.{any, filter}
use Rattle.lists.proofs.Cases.{on, clash, and_left, and_right, and_both, or-true, or_right}
use Rattle.lists.proofs.Kept.{any-map, any_at, any-kept}
use Rattle.walks.specs.Walks.{Reach, here, step, Closed}
use Rattle.walks.proofs.Walks.{reach-trans, reach-through}
use Rattle.layout.specs.Content.{Table}
use Rattle.layout.specs.Steps.{steps_of, is_step, makes_step, has_step, StepIn}
use Rattle.edits.specs.Edits.{has_members}
use Rattle.removals.specs.Removals.{Removal, stays_vertex, kept_hyperedge, thinned, withdrawn}

-- a walk of one step or more: the walk to the last place but one, and the last step
record Onward (R : ℕ → ℕ → Type 0) (x z : ℕ) : Type 0 where
  last : ℕ
  walk : Reach R x last
  end : R last z

onward-reach : {R : ℕ → ℕ → Type 0} {x z : ℕ} → Onward R x z → Reach R x z
onward-reach w = step w.walk w.end

-- a closed walk along steps that are themselves walks of one step or more
closed-through : {R S : ℕ → ℕ → Type 0} → ((u v : ℕ) → R u v → Onward S u v) → Closed R → Closed S
closed-through f c =
    let w = f c.last c.from c.back in
    record {
      from = c.from;
      last = w.last;
      walk = reach-trans (reach-through (λ u v r. onward-reach (f u v r)) c.walk) w.walk;
      back = w.end;
    }

-- ---- the steps of one list

abbrev StepOf : List ℕ → ℕ → ℕ → Type 0
StepOf ms x y = any (is_step x y) (steps_of ms) ≡ true

step-head : (a b : ℕ) (ms : List ℕ) → StepOf (a ∷ b ∷ ms) a b
unfolding steps_of any is_step
step-head a b ms = ap (λ (t : Bool). t || any (is_step a b) (steps_of (b ∷ ms))) (and_both _ _ (eq-eqb a a refl) (eq-eqb b b refl))

step-tail : (a : ℕ) (ms : List ℕ) (x y : ℕ) → StepOf ms x y → StepOf (a ∷ ms) x y
unfolding steps_of any
step-tail a [] x y s = s
step-tail a (b ∷ ms) x y s = or_right (is_step x y (record { from = a; to = b })) _ s

-- a step is the first one or one of the rest
step-cases : {C : Type 0} (a b : ℕ) (ms : List ℕ) (x y : ℕ) → StepOf (a ∷ b ∷ ms) x y → (a ≡ x → b ≡ y → C) → (StepOf (b ∷ ms) x y → C) → C
unfolding steps_of any is_step
step-cases a b ms x y s first rest =
    ⊎_elim (λ h. first (eqb-true a x (and_left (eqb a x) (eqb b y) h)) (eqb-true b y (and_right (eqb a x) (eqb b y) h))) rest
    (or-true (is_step x y (record { from = a; to = b })) (any (is_step x y) (steps_of (b ∷ ms))) s)

module _ (R : ℕ → ℕ → Type 0) (p : ℕ → Bool) where
  -- every step of the list is in R
  abbrev Within : List ℕ → Type 0
  Within ms = (x y : ℕ) → StepOf ms x y → R x y

  -- a walk from a to the first of the list, if it has one
  abbrev Lead : ℕ → List ℕ → Type 0
  Lead a [] = Unit {0}
  Lead a (b ∷ ms) = Onward R a b

  within-tail : (a : ℕ) (ms : List ℕ) → Within (a ∷ ms) → Within ms
  within-tail a ms r x y s = r x y (step-tail a ms x y s)

  lead-head : (a : ℕ) (ms : List ℕ) → Within (a ∷ ms) → Lead a ms
  lead-head a [] r = tt
  lead-head a (b ∷ ms) r = record { last = a; walk = here; end = r a b (step-head a b ms) }

  lead-over : (a b : ℕ) (ms : List ℕ) → Onward R a b → Within (b ∷ ms) → Lead a ms
  lead-over a b [] w r = tt
  lead-over a b (c ∷ ms) w r = record { last = b; walk = onward-reach w; end = r b c (step-head b c ms) }

  -- a step of a and those kept of the list behind it
  kept-behind : (a : ℕ) (ms : List ℕ) → Lead a ms → Within ms → (x y : ℕ) → StepOf (a ∷ filter p ms) x y → Onward R x y
  unfolding filter steps_of any
  kept-behind a [] w r x y s = clash s refl
  kept-behind a (b ∷ ms) w r x y s =
      on (p b)
      (λ h. step-cases a b (filter p ms) x y (rw h at s) (λ e f. subst₂ (Onward R) e f w) (kept-behind b ms (lead-head b ms r) (within-tail b ms r) x y))
      (λ h. kept-behind a ms (lead-over a b ms w r) (within-tail b ms r) x y (rw h at s))

  kept_step : (ms : List ℕ) → Within ms → (x y : ℕ) → StepOf (filter p ms) x y → Onward R x y
  unfolding filter steps_of any
  kept_step [] r x y s = clash s refl
  kept_step (a ∷ ms) r x y s =
      on (p a)
      (λ h. kept-behind a ms (lead-head a ms r) (within-tail a ms r) x y (rw h at s))
      (λ h. kept_step ms (within-tail a ms r) x y (rw h at s))

-- ---- the steps of a table

module _ (rs : List Removal) (t : Table) where
  withdrawn-step : (x y : ℕ) → StepIn (withdrawn rs t) x y → Onward (StepIn t) x y
  unfolding withdrawn has_step makes_step thinned
  withdrawn-step x y s =
      let kept = any-kept has_members (makes_step x y) (map (thinned rs) (filter (kept_hyperedge rs) t.hyperedges)) s in
      let some = any_at (λ e. makes_step x y (thinned rs e)) t.hyperedges
      (any-kept (kept_hyperedge rs) _ t.hyperedges (sym (any-map (thinned rs) (makes_step x y) (filter (kept_hyperedge rs) t.hyperedges)) ∙ kept)) in
      kept_step (StepIn t) (stays_vertex rs) some.0.members (λ u v h. some.2 (makes_step u v) h) x y some.1

  pub withdrawn-reach : (x y : ℕ) → Reach (StepIn (withdrawn rs t)) x y → Reach (StepIn t) x y
  withdrawn-reach x y w = reach-through (λ u v s. onward-reach (withdrawn-step u v s)) w

  pub withdrawn-closed : Closed (StepIn (withdrawn rs t)) → Closed (StepIn t)
  withdrawn-closed c = closed-through withdrawn-step c
