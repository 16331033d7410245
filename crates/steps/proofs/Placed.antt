-- Laws of the steps of a list, place by place. Assumes nothing.
use mathlib.Core.Path.{◌≡◌, refl, ap}
use mathlib.Core.Bool.{false}
use mathlib.Core.List.{List, [], ◌∷◌, ◌++◌}
use Prim.Native.Nat.{ℕ, zero, suc, ◌<◌}
use native.Mathlib.Nat.{not-suc-le-zero, le_of_suc-le-suc}
use lib.ListN.{length, get_or, take}
use Rattle.lists.specs.Lists.{any}
use Rattle.layout.specs.Steps.{Step, steps_of, is_step}

-- one member makes no step
pub steps-none : (x y : ℕ) (ms : List ℕ) → any (is_step x y) (steps_of (take 1 ms)) ≡ false
unfolding any steps_of
steps-none x y [] = refl
steps-none x y (m ∷ ms) = refl

-- one place more has one step more
pub steps-more : (ms : List ℕ) (i : ℕ) → suc i < length ms
    → steps_of (take (suc (suc i)) ms) ≡ steps_of (take (suc i) ms) ++ (record { from = get_or ms i 0; to = get_or ms (suc i) 0 } ∷ [])
unfolding steps_of
steps-more [] i h = absurd (not-suc-le-zero h)
steps-more (x ∷ []) i h = absurd (not-suc-le-zero (le_of_suc-le-suc h))
steps-more (x ∷ y ∷ ms) zero h = refl
steps-more (x ∷ y ∷ ms) (suc i) h =
    ap (λ (r : List Step). record { from = x; to = y } ∷ r) (steps-more (y ∷ ms) i (le_of_suc-le-suc h))
