-- A walk by its list is a walk with its total, and back; and what a search leaves of the costs. Assumes nothing.
use mathlib.Core.Path.{◌≡◌, refl, sym, ap, ◌∙◌, subst}
use mathlib.Core.Bool.{Bool}
use mathlib.Core.List.{List, [], ◌∷◌, ◌++◌}
use Prim.Native.Nat.{ℕ, suc, ◌+◌, ◌*◌, ◌≤◌, ◌<◌}
use native.Mathlib.Omega.{arith}
use lib.ListN.{length, get_or, length-append}
use Rattle.graph.specs.Reach.{Edge}
use Rattle.distance.specs.Way.{Way, here, step}
use Rattle.distance.specs.Best.{Walk, total}
use Rattle.distance.specs.Path.{key}
use Rattle.distance.specs.Labels.{Shortest}
use Rattle.distance.proofs.Path.{key-total}
use Rattle.distance.proofs.Reached.{walk-snoc}

module _ (R : ℕ → ℕ → Type 0) (W : ℕ → ℕ → ℕ) where
  total-snoc : (x : ℕ) (l : List ℕ) (y z : ℕ) → Walk R x l y → total W x (l ++ (z ∷ [])) ≡ total W x l + W y z
  total-snoc x [] y z w = omega (arith, ap (λ (i : ℕ). W i z) w)
  total-snoc x (v ∷ l) y z w = omega (arith, total-snoc v l y z w.1)

  way-list : {x y k j : ℕ} → Way R W x y k j → (l : List ℕ) × (Walk R x l y) × (total W x l ≡ k) × (length l ≡ j)
  way-list here = ([], refl, refl, refl)
  way-list {x} (step {y = a} {z = z} {k = k} {j = j} w e) =
      let r = way-list w in
      (r.0 ++ (z ∷ []), walk-snoc R x r.0 a z r.1 e, omega (arith, total-snoc x r.0 a z r.1, r.2), omega (arith, length-append r.0 (z ∷ []), r.3))

  list-way : {s x k j : ℕ} (l : List ℕ) (y : ℕ) → Way R W s x k j → Walk R x l y → Way R W s y (k + total W x l) (j + length l)
  list-way {s} {x} {k} {j} [] y p w =
      subst (λ (i : ℕ). Way R W s y i (j + 0)) (omega arith) (subst (λ (i : ℕ). Way R W s y k i) (omega arith) (subst (λ (i : ℕ). Way R W s i k j) w p))
  list-way {s} {x} {k} {j} (v ∷ l) y p w =
      let r = list-way {x = v} l y (step p w.0) w.1 in
      let a : k + W x v + total W v l ≡ k + (W x v + total W v l) = omega arith in
      let b : suc j + length l ≡ j + suc (length l) = omega arith in
      subst (λ (i : ℕ). Way R W s y i (j + suc (length l))) a (subst (λ (i : ℕ). Way R W s y (k + W x v + total W v l) i) b r)

-- what the search from s left of y
module _ (E : ℕ → ℕ → Bool) (W : ℕ → ℕ → ℕ) (n s : ℕ) (m d : List ℕ) (h : Shortest E (key W) n s m d) where
  -- a walk of its cost, of few steps
  pub cost-walk : (y : ℕ) → y < n → get_or m y 0 ≡ 2 → (l : List ℕ) × (Walk (Edge E n) s l y) × (get_or d y 0 ≡ total W s l * 65536 + length l) × (length l ≤ n)
  cost-walk y ly t =
      let w = h.way y ly t in
      let r = way-list (Edge E n) (key W) w.2 in
      (r.0, r.1, sym r.2 ∙ key-total W s r.0, omega (arith, r.3, w.1))

  -- no walk is cheaper
  pub cost-under : (y : ℕ) (l : List ℕ) → Walk (Edge E n) s l y → (get_or m y 0 ≡ 2) × (get_or d y 0 ≤ total W s l * 65536 + length l)
  cost-under y l w =
      let r = h.least y (0 + total (key W) s l) (0 + length l) (list-way (Edge E n) (key W) l y here w) in
      (r.0, omega (arith, r.1, key-total W s l))
