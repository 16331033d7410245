-- A walk by its list, and what is reached. Assumes nothing.
use mathlib.Core.Path.{refl, sym, subst}
use mathlib.Core.Logic.{◌↔◌}
use mathlib.Core.List.{List, [], ◌∷◌, ◌++◌}
use Prim.Native.Nat.{ℕ}
use Rattle.walks.specs.Walks.{Reach, here, step}
use Rattle.walks.proofs.Walks.{reach-trans}
use Rattle.distance.specs.Best.{Walk}

module _ (R : ℕ → ℕ → Type 0) where
  -- one step more
  pub walk-snoc : (x : ℕ) (l : List ℕ) (y z : ℕ) → Walk R x l y → R y z → Walk R x (l ++ (z ∷ [])) z
  walk-snoc x [] y z w r = (subst (λ (i : ℕ). R i z) (sym w) r, refl)
  walk-snoc x (v ∷ l) y z w r = (w.0, walk-snoc v l y z w.1 r)

  walk-reach : (x : ℕ) (l : List ℕ) (y : ℕ) → Walk R x l y → Reach R x y
  walk-reach x [] y w = subst (λ (i : ℕ). Reach R x i) w here
  walk-reach x (v ∷ l) y w = reach-trans (step here w.0) (walk-reach v l y w.1)

  reach-walk : {x y : ℕ} → Reach R x y → (l : List ℕ) × Walk R x l y
  reach-walk here = ([], refl)
  reach-walk {x} (step {y = y} {z = z} w r) = let p = reach-walk w in (p.0 ++ (z ∷ []), walk-snoc x p.0 y z p.1 r)

  -- y is reached from x exactly where there is a walk from x to y
  pub reached-by : (x y : ℕ) → Reach R x y ↔ ((l : List ℕ) × Walk R x l y)
  reached-by x y = (reach-walk, λ p. walk-reach x p.0 y p.1)
