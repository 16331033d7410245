-- The steps of a list, by their places. Assumes nothing.
use mathlib.Core.Path.{◌≡◌, refl}
use mathlib.Core.List.{List, [], ◌∷◌}
use Prim.Native.Nat.{ℕ, zero, suc, ◌+◌, ◌≤◌, ◌<◌, suc-le-suc}
use native.Mathlib.Nat.{not-suc-le-zero, le_of_suc-le-suc, zero-lt-suc}
use native.Mathlib.Numerals.{add-one}
use native.Mathlib.Omega.{arith}
use lib.ListN.{length, get_or, drop}
use lib.Seq.{drop-cons}
use Rattle.layout.specs.Steps.{Step, steps_of}
use Rattle.layout.specs.Inner.{step_at}

-- a place of the row of steps is one of the list's, and the step there is from the list's number there
pub step_from : (d : Step) (ms : List ℕ) (i : ℕ) → i < length (steps_of ms) → (i < length ms) × ((get_or (steps_of ms) i d).from ≡ get_or ms i 0)
unfolding steps_of
step_from d [] i h = absurd (not-suc-le-zero h)
step_from d (x ∷ []) i h = absurd (not-suc-le-zero h)
step_from d (x ∷ y ∷ ms) zero h = (zero-lt-suc _, refl)
step_from d (x ∷ y ∷ ms) (suc i) h = let q = step_from d (y ∷ ms) i (le_of_suc-le-suc h) in (suc-le-suc q.0, q.1)

-- ---- a loop over i along the steps of ms

module _ (ms : List ℕ) (i : ℕ) where
  pub steps-more : i + 1 < length ms → steps_of (drop i ms) ≡ step_at ms i ∷ steps_of (drop (i + 1) ms)
  unfolding steps_of
  steps-more h = rw (drop-cons ms i 0 (omega arith), ← add-one i, drop-cons ms (i + 1) 0 h)

pub steps-end : (ms : List ℕ) (i : ℕ) → length ms ≤ i + 1 → steps_of (drop i ms) ≡ []
unfolding steps_of
steps-end [] zero h = refl
steps-end [] (suc i) h = refl
steps-end (x ∷ []) zero h = refl
steps-end (x ∷ y ∷ ms) zero h = absurd (not-suc-le-zero (le_of_suc-le-suc (rw (add-one 0) at h)))
steps-end (x ∷ ms) (suc i) h = steps-end ms i (omega arith)
