-- The first of the m numbers from j on that passes a test, or j + m; and when a count is 0. Assumes nothing.
use mathlib.Core.Path.{◌≡◌, refl, sym, ap, subst}
use mathlib.Core.Bool.{Bool, true, false}
use Prim.Native.Nat.{ℕ, zero, suc, ◌+◌, ◌-◌, ◌≤◌, ◌<◌}
use native.Mathlib.Nat.{lt_irrefl, not-suc-le-zero}
use native.Mathlib.Numerals.{add-one}
use native.Mathlib.Omega.{arith}
use Rattle.lists.proofs.Cases.{on, on_same, clash}
use Rattle.lists.specs.Tests.{count, bit}
use Rattle.order.specs.Least.{least}

module _ (f : ℕ → Bool) where
  pub least-here : (m j : ℕ) → f j ≡ true → least f (suc m) j ≡ j
  unfolding least
  least-here m j e = rw e

  pub least_on : (m j : ℕ) → f j ≡ false → least f (suc m) j ≡ least f m (suc j)
  unfolding least
  least_on m j e = rw e

  -- where it is below the end it passes
  pub least-hit : (m j : ℕ) → least f m j < j + m → f (least f m j) ≡ true
  unfolding least
  least-hit zero j l = absurd (lt_irrefl j (omega arith))
  least-hit (suc m) j l =
      on (f j)
      (λ e. subst (λ (z : ℕ). f z ≡ true) (sym (least-here m j e)) e)
      (λ e. subst (λ (z : ℕ). f z ≡ true) (sym (least_on m j e)) (least-hit m (suc j) (omega (arith, least_on m j e))))

  -- a number from j on that passes is not before it
  pub least-le : (m j i : ℕ) → j ≤ i → i < j + m → f i ≡ true → least f m j ≤ i
  least-le zero j i a b e = absurd (lt_irrefl j (omega arith))
  least-le (suc m) j i a b e =
      on (f j)
      (λ t. omega (arith, least-here m j t))
      (λ t. on_same i j
      (λ s. clash (subst (λ (z : ℕ). f z ≡ true) s e) t)
      (λ ne. omega (arith, least_on m j t, least-le m (suc j) i (omega arith) (omega arith) e)))

  -- the code's loop
  pub least-found : (n j : ℕ) → j < n → f j ≡ true → least f (n - j) j ≡ j
  least-found n j l e =
      let s : n - j ≡ suc (n - (j + 1)) = omega arith in
      rw s (least-here (n - (j + 1)) j e)

  pub least_step : (n j : ℕ) → j < n → f j ≡ false → least f (n - j) j ≡ least f (n - (j + 1)) (j + 1)
  least_step n j l e =
      let s : n - j ≡ suc (n - (j + 1)) = omega arith in
      rw (s, add-one j) (least_on (n - suc j) j e)

  pub least-end : (n j : ℕ) → n ≤ j → least f (n - j) j ≡ j
  unfolding least
  least-end n j l =
      let s : n - j ≡ 0 = omega arith in
      rw s

pub least-ext : (f g : ℕ → Bool) (m j : ℕ) → ((i : ℕ) → j ≤ i → i < j + m → f i ≡ g i) → least f m j ≡ least g m j
unfolding least
least-ext f g zero j h = refl
least-ext f g (suc m) j h = rw (h j (omega arith) (omega arith), least-ext f g m (suc j) (λ i a b. h i (omega arith) (omega arith)))

-- where a count is 0, nothing passes
pub count-zero : (p : ℕ → Bool) (n : ℕ) → count p n ≡ 0 → (i : ℕ) → i < n → p i ≡ false
count-zero p zero e i l = absurd (not-suc-le-zero l)
count-zero p (suc n) e i l =
    on (p n)
    (λ t. absurd (lt_irrefl 0 (omega (arith, ap bit t))))
    (λ t. on_same i n (λ s. subst (λ (z : ℕ). p z ≡ false) (sym s) t) (λ ne. count-zero p n (omega (arith, ap bit t)) i (omega arith)))

-- a count that is not 0 has a number that passes
pub count-some : (p : ℕ → Bool) (n : ℕ) → (count p n ≡ 0 → ⊥) → (i : ℕ) × (i < n) × (p i ≡ true)
count-some p zero f = absurd (f refl)
count-some p (suc n) f =
    on (p n)
    (λ t. (n, omega arith, t))
    (λ t. let r = count-some p n (λ e. f (omega (arith, ap bit t))) in (r.0, omega (arith, r.1), r.2))
