-- Laws of sets of marks: one strictly within another has fewer marks, and one within another and with fewer is strictly so. Assumes nothing.
use mathlib.Core.Path.{◌≡◌, refl, sym, ap, ap₂, ◌∙◌}
use mathlib.Core.Bool.{Bool, true, false, not, cond, ◌||◌}
use mathlib.Core.Logic.{⊎_elim}
use Prim.Native.Nat.{ℕ, ◌≤◌, ◌<◌}
use native.Mathlib.Nat.{lt_irrefl}
use native.Mathlib.Omega.{arith}
use lib.Dec.{eqb}
use borrow.Author.Tests.{eq-eqb, ne_eqb}
use Rattle.lists.specs.Tests.{◌and◌, count}
use Rattle.lists.proofs.Cases.{on, on_same, clash, and-true, and-false-left, and-false-right}
use Rattle.lists.proofs.Every.{every-at, every_of, every-ext}
use Rattle.lists.proofs.Count.{find, count-flip, count-mono}
use Rattle.properties.specs.Properties.{under, within, strictly_within}

module _ (n : ℕ) (p q : ℕ → Bool) where
  pub within-at : within n p q ≡ true → (i : ℕ) → i < n → p i ≡ true → q i ≡ true
  unfolding within under
  within-at e i h pi = rw pi at (every-at (under p q) n i e h)

  pub within_of : ((i : ℕ) → i < n → p i ≡ true → q i ≡ true) → within n p q ≡ true
  unfolding within under
  within_of h = every_of (under p q) n (λ i l. on (p i) (λ e. rw e (h i l e)) (λ e. rw e))

  -- as many marks at least
  within_count : within n p q ≡ true → count p n ≤ count q n
  within_count e = count-mono p q n (λ i h pi. within-at e i h pi)

  -- a mark that the other lacks
  lacking : within n p q ≡ false → (x : ℕ) × (x < n) × (p x ≡ true) × (q x ≡ false)
  unfolding within under
  lacking e =
      ⊎_elim
      (λ (r : (x : ℕ) × (x < n) × (under p q x ≡ false)). on (p r.0)
      (λ a. (r.0, r.1, a, rw a at r.2))
      (λ a. clash refl (rw a at r.2)))
      (λ (all : (i : ℕ) → i < n → under p q i ≡ true). clash (every_of (under p q) n all) e)
      (find (under p q) n)

module _ (n : ℕ) (p q : ℕ → Bool) where
  -- one mark more is enough
  strict-count : within n p q ≡ true → within n q p ≡ false → count p n < count q n
  strict-count e f =
      let r = lacking n q p f in
      let x : ℕ = r.0 in
      let more : ℕ → Bool = λ y. eqb y x || p y in
      omega (
        arith,
        count-flip p more x n r.1 r.3 (ap (λ (b : Bool). b || p x) (eq-eqb x x refl)) (λ y ne. ap (λ (b : Bool). b || p y) (ne_eqb y x ne)),
        count-mono more q n (λ i h m. on_same i x (λ s. ap q s ∙ r.2) (λ ne. within-at n p q e i h (sym (ap (λ (b : Bool). b || p i) (ne_eqb i x ne)) ∙ m))),
      )

  pub strict-no : count q n ≤ count p n → false ≡ strictly_within n p q
  unfolding strictly_within
  strict-no h =
      on (within n p q)
      (λ e. on (within n q p)
      (λ f. sym (and-false-right (within n p q) (not (within n q p)) (ap not f)))
      (λ f. absurd (lt_irrefl 0 (omega (arith, strict-count e f)))))
      (λ e. sym (and-false-left (within n p q) (not (within n q p)) e))

  pub strict-if : count p n < count q n → within n p q ≡ strictly_within n p q
  unfolding strictly_within
  strict-if h =
      on (within n q p)
      (λ f. absurd (lt_irrefl 0 (omega (arith, within_count n q p f))))
      (λ f. sym (ap (λ (b : Bool). within n p q and not b) f ∙ and-true (within n p q)))

pub within-ext : (n : ℕ) (p q r s : ℕ → Bool) → ((i : ℕ) → i < n → p i ≡ r i) → ((i : ℕ) → i < n → q i ≡ s i) → within n p q ≡ within n r s
unfolding within under
within-ext n p q r s a b = every-ext (under p q) (under r s) n (λ i h. ap₂ (λ (x y : Bool). cond x y true) (a i h) (b i h))
