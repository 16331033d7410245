-- The first number at which a test fails. Assumes nothing.
use mathlib.Core.Path.{◌≡◌, ap, ◌∙◌}
use mathlib.Core.Bool.{Bool, true, false}
use mathlib.Core.Logic.{⊎_elim}
use Prim.Native.Nat.{ℕ, zero, suc, ◌≤◌, ◌<◌}
use native.Mathlib.Nat.{not-suc-le-zero, le_of_suc-le-suc, eq-or-lt_of_le, le_antisymm}
use native.Mathlib.Omega.{arith}
use lib.Dec.{ltb}
use borrow.Author.Tests.{ltb-true, ltb-false}
use Rattle.lists.proofs.Cases.{on, on_below, clash}
use Rattle.frames.specs.Reading.{first_not}

module _ (p : ℕ → Bool) where
  pub first-le : (n : ℕ) → first_not p n ≤ n
  unfolding first_not
  first-le zero = omega arith
  first-le (suc n) =
      on (ltb (first_not p n) n) (λ e. rw e (omega (arith, first-le n)))
      (λ e. on (p n) (λ f. rw (e, f) (omega arith)) (λ f. rw (e, f) (omega arith)))

  -- the test passes before it
  pub first-before : (n k : ℕ) → k < first_not p n → p k ≡ true
  unfolding first_not
  first-before zero k h = absurd (not-suc-le-zero h)
  first-before (suc n) k h =
      on (ltb (first_not p n) n) (λ e. first-before n k (rw e at h)) (λ e.
      let l : n ≤ first_not p n = ltb-false (first_not p n) n e in
      on (p n)
      (λ f. let q : k < suc n = rw (e, f) at h in ⊎_elim (λ s. ap p s ∙ f) (λ s. first-before n k (omega arith)) (eq-or-lt_of_le (le_of_suc-le-suc q)))
      (λ f. let q : k < n = rw (e, f) at h in first-before n k (omega arith)))

  -- and fails at it
  first-stop : (n : ℕ) → first_not p n < n → p (first_not p n) ≡ false
  unfolding first_not
  first-stop zero h = absurd (not-suc-le-zero h)
  first-stop (suc n) h =
      on (ltb (first_not p n) n) (λ e. rw e (first-stop n (ltb-true (first_not p n) n e))) (λ e.
      on (p n) (λ f. let q : suc n < suc n = rw (e, f) at h in absurd (omega arith)) (λ f. rw (e, f) f))

  pub first-from : (n g : ℕ) → g ≤ n → ((k : ℕ) → k < g → p k ≡ true) → g ≤ first_not p n
  first-from n g h f = on_below (first_not p n) g (λ l. clash (f (first_not p n) l) (first-stop n (omega arith))) (λ l. l)

  pub first-none : (n : ℕ) → ((k : ℕ) → k < n → p k ≡ true) → first_not p n ≡ n
  first-none n f = le_antisymm (first-le n) (first-from n n (omega arith) f)
