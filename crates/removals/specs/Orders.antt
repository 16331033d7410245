-- The orders of a list. Assumes nothing.
use Rattle.std.specs.Prelude.{List, ◌∷◌}

-- the same elements in another order: two neighbours swapped, at any place, any number of times
pub data Permutes {A : Type 0} : List A → List A → Type 0 where
  same : {xs : List A} → Permutes xs xs
  swap : {x y : A} {xs : List A} → Permutes (x ∷ y ∷ xs) (y ∷ x ∷ xs)
  behind : {x : A} {xs ys : List A} → Permutes xs ys → Permutes (x ∷ xs) (x ∷ ys)
  then : {xs ys zs : List A} → Permutes xs ys → Permutes ys zs → Permutes xs zs
