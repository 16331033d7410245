-- The walks along steps without direction are the walks of co-membership; turned steps walk the other way. Assumes nothing.
use mathlib.Core.Path.{◌≡◌, refl, sym, ap, subst}
use mathlib.Core.Bool.{Bool, true, ◌||◌}
use mathlib.Core.Logic.{⊎_elim}
use mathlib.Core.List.{List, [], ◌∷◌}
use Prim.Native.Nat.{ℕ}
use lib.Dec.{eqb}
use lib.ListN.{get_or}
use borrow.Author.Tests.{eq-eqb, eqb-true}
use Rattle.lists.specs.Tests.{◌and◌}
use Rattle.lists.specs.Lists.{any, memb}
use Rattle.lists.proofs.Cases.{clash, or-true, or_right, and_left, and_right, and_both}
use Rattle.walks.specs.Walks.{Reach, here, step}
use Rattle.walks.proofs.Walks.{reach-trans, reach-through, reach-map}
use Rattle.layout.specs.Content.{Table, no_hyperedge}
use Rattle.layout.specs.Steps.{steps_of, is_step, makes_step, has_step}
use Rattle.steps.specs.Matrices.{undirected, lists_both, together, TogetherIn}
use Rattle.steps.specs.Inner.{UndirectedIn}
use Rattle.lists.proofs.Any.{any_at, any_of}
use Rattle.steps.proofs.Among.{step-together, together-swap}

-- ---- the other way round

pub reach-swap : {R : ℕ → ℕ → Type 0} {x y : ℕ} → ((u v : ℕ) → R u v → R v u) → Reach R x y → Reach R y x
reach-swap h here = here
reach-swap h (step {y = u} {z = v} a r) = reach-trans (step here (h u v r)) (reach-swap h a)

-- ---- along a list

-- where every step of the list is in the relation, its first member reaches each
list-walk : {R : ℕ → ℕ → Type 0} (a : ℕ) (ms : List ℕ) → ((x y : ℕ) → any (is_step x y) (steps_of (a ∷ ms)) ≡ true → R x y)
    → (y : ℕ) → memb y (a ∷ ms) ≡ true → Reach R a y
unfolding any steps_of is_step
list-walk {R} a [] h y e =
    ⊎_elim (λ p. subst (λ (z : ℕ). Reach R a z) (sym (eqb-true y a p)) here) (λ p. clash p refl) (or-true (eqb y a) (memb y []) e)
list-walk {R} a (b ∷ ms) h y e =
    ⊎_elim
    (λ p. subst (λ (z : ℕ). Reach R a z) (sym (eqb-true y a p)) here)
    (λ p. reach-trans (step here (h a b (ap (λ (z : Bool). z || any (is_step a b) (steps_of (b ∷ ms))) (and_both _ _ (eq-eqb a a refl) (eq-eqb b b refl)))))
    (list-walk b ms (λ x z q. h x z (or_right (eqb a x and eqb b z) _ q)) y p))
    (or-true (eqb y a) (memb y (b ∷ ms)) e)

module _ (t : Table) where
  link-swap : (x y : ℕ) → UndirectedIn t x y → UndirectedIn t y x
  unfolding undirected
  link-swap x y e =
      ⊎_elim (λ p. or_right (has_step t y x) (has_step t x y) p) (λ p. ap (λ (z : Bool). z || has_step t x y) p) (or-true (has_step t x y) (has_step t y x) e)

  link-together : (x y : ℕ) → UndirectedIn t x y → TogetherIn t x y
  unfolding undirected
  link-together x y e = ⊎_elim (λ p. step-together t x y p) (λ p. together-swap t y x (step-together t y x p)) (or-true (has_step t x y) (has_step t y x) e)

  -- two members of a list are linked through its first
  members-linked : (ms : List ℕ) → ((x y : ℕ) → any (is_step x y) (steps_of ms) ≡ true → UndirectedIn t x y) → (x y : ℕ) → memb x ms ≡ true → memb y ms ≡ true → Reach (UndirectedIn t) x y
  members-linked [] h x y p q = clash p refl
  members-linked (a ∷ ms) h x y p q = reach-trans (reach-swap link-swap (list-walk a ms h x p)) (list-walk a ms h y q)

  together-linked : (x y : ℕ) → TogetherIn t x y → Reach (UndirectedIn t) x y
  unfolding together lists_both undirected has_step makes_step
  together-linked x y e =
      let r = any_at (lists_both x y) t.hyperedges no_hyperedge e in
      members-linked (get_or t.hyperedges r.0 no_hyperedge).members
      (λ u v s. ap (λ (z : Bool). z || has_step t v u) (any_of (makes_step u v) t.hyperedges no_hyperedge r.0 r.1 s))
      x y (and_left _ _ r.2) (and_right _ _ r.2)

  -- the two walks are one
  pub reach-together : {x y : ℕ} → Reach (UndirectedIn t) x y → Reach (TogetherIn t) x y
  reach-together a = reach-map link-together a

  pub reach-linked : {x y : ℕ} → Reach (TogetherIn t) x y → Reach (UndirectedIn t) x y
  reach-linked a = reach-through together-linked a
