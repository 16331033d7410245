-- Laws of the orders of a list. Assumes nothing.
use mathlib.Core.Path.{◌≡◌, refl, ap, ◌∙◌}
use mathlib.Core.Bool.{Bool, true, false, ◌||◌}
use mathlib.Core.List.{List, [], ◌∷◌, ◌++◌}
use Rattle.lists.specs.Lists.{any}
use Rattle.lists.proofs.Cases.{or_right}
use Rattle.removals.specs.Orders.{Permutes, same, swap, behind, then}

-- any element can come first, whatever stands before it
pub permutes-first : {A : Type 0} (x : A) (xs ys : List A) → Permutes (xs ++ (x ∷ ys)) (x ∷ (xs ++ ys))
permutes-first x [] ys = same
permutes-first x (z ∷ xs) ys = then (behind (permutes-first x xs ys)) swap

or_swap : (a b c : Bool) → (a || (b || c)) ≡ (b || (a || c))
or_swap a true c = or_right a true refl
or_swap a false c = refl

-- a test passes at some element in every order, or in none
pub any-permutes : {A : Type 0} (p : A → Bool) {xs ys : List A} → Permutes xs ys → any p xs ≡ any p ys
unfolding any
any-permutes p same = refl
any-permutes p (swap {x} {y} {xs}) = or_swap (p x) (p y) (any p xs)
any-permutes p (behind {x} q) = ap (λ (b : Bool). p x || b) (any-permutes p q)
any-permutes p (then q r) = any-permutes p q ∙ any-permutes p r
