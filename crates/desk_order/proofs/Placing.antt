-- Laws of a record that is placed, or is not: it has a step to a placed one, is placed already, or has a step to itself. Assumes nothing.
use mathlib.Core.Path.{◌≡◌, refl, sym, ap, ◌∙◌}
use mathlib.Core.Bool.{Bool, true, false, ◌||◌}
use mathlib.Core.List.{List}
use Prim.Native.Nat.{ℕ, ◌+◌, ◌*◌, ◌≤◌}
use native.Mathlib.Nat.{le_antisymm}
use native.Mathlib.Numerals.{add-one}
use lib.Dec.{eqb}
use lib.ListN.{get_or, set}
use borrow.Author.Tests.{eq-eqb, ne_eqb}
use Rattle.lists.specs.Tests.{◌and◌}
use Rattle.lists.specs.Lists.{any, tab, up_to}
use Rattle.lists.proofs.Cases.{or-false, or_right, and_both, and-false-left, and-false-right}
use Rattle.lists.proofs.Tab.{tab-suc}
use Rattle.lists.proofs.Any.{any_snoc}
use Rattle.layout.specs.Layout.{vertex_limit}
use Rattle.marks.specs.Marks.{is_marked}
use Rattle.desk_order.specs.Placed.{meets_at, misplaced, PlacedNext}

-- ---- one mark of a row, x, and whether its record is placed

module _ (met : Bool) (x : ℕ) (placed : Bool) where
  pub no_step_lem : (x ≡ 1 → ⊥) → met ≡ (met || (eqb x 1 and placed))
  no_step_lem ne = sym (ap (λ (b : Bool). met || b) (and-false-left (eqb x 1) placed (ne_eqb x 1 ne)) ∙ or-false met)

  pub step-placed : x ≡ 1 → placed ≡ true → true ≡ (met || (eqb x 1 and placed))
  step-placed e h = sym (or_right met (eqb x 1 and placed) (and_both (eqb x 1) placed (eq-eqb x 1 e) h))

  pub step-unplaced : placed ≡ false → met ≡ (met || (eqb x 1 and placed))
  step-unplaced h = sym (ap (λ (b : Bool). met || b) (and-false-right (eqb x 1) placed h) ∙ or-false met)

-- ---- the row of record k: a loop over j

module _ (m : List ℕ) (placed : List Bool) (k : ℕ) where
  pub meets-first : false ≡ any (meets_at m placed k) (up_to 0)
  unfolding any tab
  meets-first = refl

  module _ (j : ℕ) (met : Bool) (h : met ≡ any (meets_at m placed k) (up_to j)) where
    pub meets-more : (r : Bool) → r ≡ (met || (eqb (get_or m (k * 256 + j) 0) 1 and is_marked placed j)) → r ≡ any (meets_at m placed k) (up_to (j + 1))
    unfolding meets_at
    meets-more r e = rw (add-one j, tab-suc (λ (i : ℕ). i) j) (e ∙ ap (λ (b : Bool). b || meets_at m placed k j) h ∙ sym (any_snoc (meets_at m placed k) (up_to j) j))

    pub meets-end : j ≤ vertex_limit → vertex_limit ≤ j → met ≡ any (meets_at m placed k) (up_to vertex_limit)
    meets-end a b = h ∙ ap (λ (i : ℕ). any (meets_at m placed k) (up_to i)) (le_antisymm a b)

-- ---- the tests, one after the other; r is what `meets` returned

module _ (m : List ℕ) (k : ℕ) (placed : List Bool) where
  pub placed-already : is_marked placed k ≡ true → PlacedNext m k placed true placed
  unfolding misplaced
  placed-already h = record { told = rw h; done = refl }

  module _ (free : is_marked placed k ≡ false) where
    pub steps-to-itself : get_or m (k * 256 + k) 0 ≡ 1 → PlacedNext m k placed true placed
    unfolding misplaced
    steps-to-itself h = record { told = rw (free, eq-eqb (get_or m (k * 256 + k) 0) 1 h); done = refl }

    module _ (other : get_or m (k * 256 + k) 0 ≡ 1 → ⊥) (r : Bool) (e : r ≡ any (meets_at m placed k) (up_to vertex_limit)) where
      told-by-row : r ≡ misplaced m placed k
      unfolding misplaced
      told-by-row = rw (free, ne_eqb (get_or m (k * 256 + k) 0) 1 other) e

      pub steps_back : r ≡ true → PlacedNext m k placed true placed
      steps_back h = record { told = sym h ∙ told-by-row; done = refl }

      pub placed-now : r ≡ false → PlacedNext m k placed false (set placed k true)
      placed-now h = record { told = sym h ∙ told-by-row; done = refl }
