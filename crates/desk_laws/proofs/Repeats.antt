-- Laws of lists with no repeat, and of the first number below n that passes a test. Assumes nothing.
use Rattle.std.specs.Prelude.{Some, None}
use mathlib.Core.Path.{◌≡◌, refl, sym, ap, ◌∙◌, subst}
use mathlib.Core.Bool.{Bool, true, false, not}
use mathlib.Core.Logic.{⊎_elim}
use mathlib.Core.List.{List, [], ◌∷◌}
use Prim.Native.Nat.{ℕ, zero, suc, ◌+◌, ◌≤◌, ◌<◌, suc-le-suc}
use native.Mathlib.Nat.{not-suc-le-zero, zero-lt-suc, zero-add, add-zero, add-suc, suc-add, lt_irrefl, le_of_suc-le-suc}
use native.Mathlib.Omega.{arith}
use lib.Dec.{eqb}
use lib.ListN.{length, get_or, take, length-take}
use lib.Seq.{get_or-take}
use borrow.Author.Tests.{eq-eqb, ne_eqb, eqb-true}
use Rattle.lists.specs.Lists.{memb, Distinct, Ascending, filter, other_than, itself, up_to}
use Rattle.lists.proofs.Cases.{on, on_same, clash, or-true, or_right, or-false-right, and_both}
use Rattle.lists.proofs.Memb.{memb-self, memb-at}
use Rattle.lists.proofs.Kept.{filter-length, memb-filter}
use Rattle.lists.proofs.Tab.{length-tab, getD-tab}
use Rattle.edits.specs.Results.{first_passing_from, first_passing}

-- ---- no repeat

-- no entry stands before itself
pub distinct_of : (l : List ℕ) → ((k : ℕ) → k < length l → memb (get_or l k 0) (take k l) ≡ false) → Distinct l
distinct_of [] h = tt
distinct_of (x ∷ l) h = (
  on (memb x l)
      (λ e.
      let r = memb-at x l e in
      clash (subst (λ (y : ℕ). memb y (x ∷ take r.0 l) ≡ true) (sym r.2) (memb-self x (take r.0 l))) (h (suc r.0) (suc-le-suc r.1)))
      (λ e. e),
  distinct_of l (λ k b. or-false-right (eqb (get_or l k 0) x) _ (h (suc k) (suc-le-suc b))),
)

pub ascending-distinct : (l : List ℕ) → Ascending l → Distinct l
ascending-distinct l asc =
    distinct_of l (λ k b. on (memb (get_or l k 0) (take k l))
    (λ e.
    let r = memb-at (get_or l k 0) (take k l) e in
    let i : r.0 < k = omega (arith, rw length-take at r.1) in
    let q : get_or l r.0 0 ≡ get_or l k 0 = sym (get_or-take k l r.0 0 i) ∙ r.2 in
    absurd (lt_irrefl (get_or l k 0) (omega (arith, asc r.0 k i b))))
    (λ e. e))

-- a list without one of its entries is shorter
without-shorter : (x : ℕ) (k : List ℕ) → memb x k ≡ true → length (filter (other_than itself x) k) < length k
unfolding filter other_than
without-shorter x [] e = clash e refl
without-shorter x (y ∷ k) e =
    on_same y x
    (λ q. rw (eq-eqb y x q) (suc-le-suc (filter-length (other_than itself x) k)))
    (λ ne. rw (ne_eqb y x ne) (suc-le-suc (without-shorter x k (⊎_elim (λ q. absurd (ne (sym (eqb-true x y q)))) (λ q. q) (or-true (eqb x y) (memb x k) e)))))

-- one whose entries all stand in k is at most as long
pub distinct-shorter : (l k : List ℕ) → Distinct l → ((x : ℕ) → memb x l ≡ true → memb x k ≡ true) → length l ≤ length k
unfolding other_than
distinct-shorter [] k d h = omega arith
distinct-shorter (x ∷ l) k d h =
    let r : length l ≤ length (filter (other_than itself x) k) =
    distinct-shorter l (filter (other_than itself x) k) d.1
    (λ y e. memb-filter (other_than itself x) y k ∙ and_both _ _
    (ap not (ne_eqb y x (λ q. clash (ap (λ (z : ℕ). memb z l) (sym q) ∙ e) d.0)))
    (h y (or_right (eqb y x) (memb y l) e))) in
    omega (arith, r, without-shorter x k (h x (memb-self x l)))

-- and where it is as long, each of k stands in it
pub distinct-covers : (l k : List ℕ) → Distinct l → ((x : ℕ) → memb x l ≡ true → memb x k ≡ true) → length k ≤ length l → (x : ℕ) → memb x k ≡ true → memb x l ≡ true
distinct-covers l k d h long x e =
    on (memb x l) (λ q. q)
    (λ q. absurd (lt_irrefl (length l) (omega (
      arith,
      distinct-shorter (x ∷ l) k (q, d)
          (λ y m. on_same y x (λ s. rw s e) (λ ne. h y (⊎_elim (λ s. absurd (ne (eqb-true y x s))) (λ s. s) (or-true (eqb y x) (memb y l) m)))),
    ))))

-- ---- the first number that passes

-- place i of the list is the first whose number passes
record FirstIn (p : ℕ → Bool) (xs : List ℕ) (i : ℕ) : Type 0 where
  pub within : i < length xs
  pub here : p (get_or xs i 0) ≡ true
  pub before : (j : ℕ) → j < i → p (get_or xs j 0) ≡ false

module _ (p : ℕ → Bool) where
  from-none : (k : ℕ) (xs : List ℕ) → first_passing_from p k xs ≡ None → (j : ℕ) → j < length xs → p (get_or xs j 0) ≡ false
  unfolding first_passing_from
  from-none k [] e j h = absurd (not-suc-le-zero h)
  from-none k (x ∷ xs) e zero h = on (p x) (λ q. absurd (let f : Some k ≡ None = rw q at e in let z : ◌≡◌ {A = ℕ} 0 1 = cc in omega arith)) (λ q. q)
  from-none k (x ∷ xs) e (suc j) h =
      on (p x)
      (λ q. absurd (let f : Some k ≡ None = rw q at e in let z : ◌≡◌ {A = ℕ} 0 1 = cc in omega arith))
      (λ q. from-none (suc k) xs (rw q at e) j (le_of_suc-le-suc h))

  to_none : (k : ℕ) (xs : List ℕ) → ((j : ℕ) → j < length xs → p (get_or xs j 0) ≡ false) → first_passing_from p k xs ≡ None
  unfolding first_passing_from
  to_none k [] h = refl
  to_none k (x ∷ xs) h = rw (h zero (zero-lt-suc (length xs))) (to_none (suc k) xs (λ j b. h (suc j) (suc-le-suc b)))

  one_more_lem : (x : ℕ) (xs : List ℕ) → p x ≡ false → (m j : ℕ) → ((i : ℕ) → i < m → p (get_or xs i 0) ≡ false) → j < suc m → p (get_or (x ∷ xs) j 0) ≡ false
  one_more_lem x xs q m zero f b = q
  one_more_lem x xs q m (suc j) f b = f j (le_of_suc-le-suc b)

  from_at : (k : ℕ) (xs : List ℕ) (i : ℕ) → first_passing_from p k xs ≡ Some i → (j : ℕ) × (i ≡ k + j) × FirstIn p xs j
  unfolding first_passing_from
  from_at k [] i e = absurd (let z : ◌≡◌ {A = ℕ} 0 1 = cc in omega arith)
  from_at k (x ∷ xs) i e =
      on (p x)
      (λ q.
      let f : Some k ≡ Some i = rw q at e in
      let g : k ≡ i = cc in
      (zero, omega arith, record { within = zero-lt-suc (length xs); here = q; before = λ j b. absurd (not-suc-le-zero b) }))
      (λ q.
      let r = from_at (suc k) xs i (rw q at e) in
      let f = r.2 in
      (suc r.0, omega (arith, r.1), record { within = suc-le-suc f.within; here = f.here; before = λ j b. one_more_lem x xs q r.0 j f.before b }))

  to_at : (k : ℕ) (xs : List ℕ) (i : ℕ) → FirstIn p xs i → first_passing_from p k xs ≡ Some (k + i)
  unfolding first_passing_from
  to_at k [] i f = absurd (not-suc-le-zero f.within)
  to_at k (x ∷ xs) zero f = rw (f.here, add-zero k)
  to_at k (x ∷ xs) (suc i) f =
      rw (f.before zero (zero-lt-suc i), add-suc k i, ← suc-add k i)
      (to_at (suc k) xs i (record { within = le_of_suc-le-suc f.within; here = f.here; before = λ j b. f.before (suc j) (suc-le-suc b) }))

  -- ---- the same of the numbers below n

  module _ (n : ℕ) where
    passes : (j : ℕ) → j < n → p (get_or (up_to n) j 0) ≡ p j
    passes j h = ap p (getD-tab (λ i. i) n j 0 h)

    pub first-none : first_passing p (up_to n) ≡ None → (j : ℕ) → j < n → p j ≡ false
    unfolding first_passing
    first-none e j h = sym (passes j h) ∙ from-none zero (up_to n) e j (rw length-tab h)

    pub none_first : ((j : ℕ) → j < n → p j ≡ false) → first_passing p (up_to n) ≡ None
    unfolding first_passing
    none_first f = to_none zero (up_to n) (λ j h. let b : j < n = rw length-tab at h in passes j b ∙ f j b)

    pub first-at : (i : ℕ) → first_passing p (up_to n) ≡ Some i → (i < n) × (p i ≡ true) × ((j : ℕ) → j < i → p j ≡ false)
    unfolding first_passing
    first-at i e =
        let r = from_at zero (up_to n) i e in
        let s : i ≡ r.0 = r.1 ∙ zero-add r.0 in
        let b : i < n = rw s (rw length-tab at r.2.within) in
        (b, sym (passes i b) ∙ rw s r.2.here, λ j h. sym (passes j (omega arith)) ∙ r.2.before j (rw (← s) h))

    pub at_first : (i : ℕ) → i < n → p i ≡ true → ((j : ℕ) → j < i → p j ≡ false) → first_passing p (up_to n) ≡ Some i
    unfolding first_passing
    at_first i b e f =
        to_at zero (up_to n) i (record { within = rw length-tab b; here = passes i b ∙ e; before = λ j h. passes j (omega arith) ∙ f j h }) ∙ ap Some (zero-add i)
