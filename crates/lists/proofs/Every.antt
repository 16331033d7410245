-- Laws of `every`. Assumes nothing.
use mathlib.Core.Path.{◌≡◌, refl, sym, ap, ◌∙◌}
use mathlib.Core.Logic.{⊎_elim}
use mathlib.Core.Bool.{Bool, true, false, not}
use borrow.Author.Tests.{not-true, not-false}
use Prim.Native.Nat.{ℕ, zero, suc, ◌+◌, ◌≤◌, ◌<◌}
use native.Mathlib.Nat.{not-suc-le-zero, le_of_suc-le-suc, eq-or-lt_of_le, le_antisymm, lt-suc_self}
use native.Mathlib.Numerals.{add-one}
use native.Mathlib.Omega.{arith}
use Rattle.lists.specs.Tests.{◌and◌, every}
use Rattle.lists.specs.Lists.{all, tab}
use Rattle.lists.proofs.Cases.{and_left, and_right, and_both, and-false-left, and-false-right}
use Rattle.lists.proofs.Tab.{tab-suc}
use Rattle.lists.proofs.All.{all_snoc}

module _ (p : ℕ → Bool) where
  pub every-at : (n i : ℕ) → every p n ≡ true → i < n → p i ≡ true
  unfolding every
  every-at zero i e h = absurd (not-suc-le-zero h)
  every-at (suc n) i e h =
      ⊎_elim (λ q. ap p q ∙ and_right (every p n) (p n) e) (λ l. every-at n i (and_left (every p n) (p n) e) l) (eq-or-lt_of_le (le_of_suc-le-suc h))

  pub every_of : (n : ℕ) → ((i : ℕ) → i < n → p i ≡ true) → every p n ≡ true
  unfolding every
  every_of zero h = refl
  every_of (suc n) h = and_both (every p n) (p n) (every_of n (λ i l. h i (omega arith))) (h n (lt-suc_self n))

  go : (i : ℕ) → every p i ≡ true → p i ≡ true → every p (i + 1) ≡ true
  unfolding every
  go i e h = rw (add-one i) (and_both (every p i) (p i) e h)

  stop : (n i : ℕ) → i < n → p i ≡ false → false ≡ every p n
  unfolding every
  stop zero i l e = absurd (not-suc-le-zero l)
  stop (suc n) i l e =
      ⊎_elim (λ q. sym (and-false-right (every p n) (p n) (ap p (sym q) ∙ e)))
      (λ w. sym (and-false-left (every p n) (p n) (sym (stop n i w e)))) (eq-or-lt_of_le (le_of_suc-le-suc l))

  -- a loop's end
  pub every-end : (n i : ℕ) → every p i ≡ true → i ≤ n → n ≤ i → true ≡ every p n
  every-end n i e a b = sym (ap (every p) (le_antisymm b a) ∙ e)

-- a loop's turn and its early end: r is what the code found of p i, and it tested `!r`
module _ (p : ℕ → Bool) (n i : ℕ) (r : Bool) (e : r ≡ p i) where
  pub every-on : every p i ≡ true → not r ≡ false → every p (i + 1) ≡ true
  every-on h q = go p i h (sym e ∙ not-false r q)

  pub every-no : i < n → not r ≡ true → false ≡ every p n
  every-no l q = stop p n i l (sym e ∙ not-true r q)

pub every-ext : (p q : ℕ → Bool) (n : ℕ) → ((i : ℕ) → i < n → p i ≡ q i) → every p n ≡ every q n
unfolding every
every-ext p q zero h = refl
every-ext p q (suc n) h = rw (every-ext p q n (λ i l. h i (omega arith)), h n (lt-suc_self n))

-- over a tabulated list the two tests are one
pub all-tab : {A : Type 0} (f : A → Bool) (g : ℕ → A) (n : ℕ) → all f (tab g n) ≡ every (λ i. f (g i)) n
unfolding all tab every
all-tab f g zero = refl
all-tab f g (suc n) = ap (all f) (tab-suc g n) ∙ all_snoc f (tab g n) (g n) ∙ ap (λ (b : Bool). b and f (g n)) (all-tab f g n)
