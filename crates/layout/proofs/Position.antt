-- What `position` and `first_missing` find. Assumes nothing.
use Rattle.std.specs.Prelude.{Option, Some, None}
use mathlib.Core.Path.{◌≡◌, refl, sym, ap, ◌∙◌}
use mathlib.Core.Bool.{true, false}
use mathlib.Core.List.{List, [], ◌∷◌}
use Prim.Native.Nat.{ℕ, zero, suc, ◌+◌, ◌≤◌, ◌<◌, suc-le-suc}
use native.Mathlib.Nat.{not-suc-le-zero, le_of_suc-le-suc, zero-lt-suc, add-zero, zero-add, suc-add, add-suc}
use native.Mathlib.Numerals.{add-one}
use native.Mathlib.Omega.{arith}
use lib.ListN.{length, get_or, drop, drop_of_length-le}
use lib.Seq.{drop-cons}
use borrow.Author.Tests.{eq-eqb, ne_eqb, lt-ltb, le-ltb}
use Rattle.lists.specs.Lists.{memb, is_below, Ascending}
use Rattle.lists.proofs.Cases.{on, on_same, on_below}
use Rattle.lists.proofs.Memb.{memb-getD, memb-at}
use Rattle.lists.proofs.Ascend.{dense-at, ascending-apart}
use Rattle.layout.specs.Content.{position, position_from, is_live}
use Rattle.layout.specs.Inner.{first_missing_from}

-- ---- from the list to the place

from_at : (j x : ℕ) (xs : List ℕ) (i : ℕ) → i < length xs → get_or xs i 0 ≡ x → ((k : ℕ) → k < i → get_or xs k 0 ≡ x → ⊥) → position_from j x xs ≡ Some (j + i)
unfolding position_from
from_at j x [] i h e n = absurd (not-suc-le-zero h)
from_at j x (y ∷ ys) zero h e n = rw (eq-eqb x y (sym e), add-zero)
from_at j x (y ∷ ys) (suc i) h e n =
    rw (ne_eqb x y (λ q. n zero (zero-lt-suc i) (sym q)), add-suc j i, ← suc-add j i)
    (from_at (suc j) x ys i (le_of_suc-le-suc h) e (λ k l. n (suc k) (suc-le-suc l)))

pub position_at : (x : ℕ) (xs : List ℕ) (i : ℕ) → i < length xs → get_or xs i 0 ≡ x → ((k : ℕ) → k < i → get_or xs k 0 ≡ x → ⊥) → position x xs ≡ Some i
unfolding position
position_at x xs i h e n = from_at zero x xs i h e n ∙ ap Some (zero-add i)

from-none : (j x : ℕ) (xs : List ℕ) → ((k : ℕ) → k < length xs → get_or xs k 0 ≡ x → ⊥) → position_from j x xs ≡ None
unfolding position_from
from-none j x [] n = refl
from-none j x (y ∷ ys) n = rw (ne_eqb x y (λ q. n zero (zero-lt-suc (length ys)) (sym q))) (from-none (suc j) x ys (λ k l. n (suc k) (suc-le-suc l)))

pub position-none : (x : ℕ) (xs : List ℕ) → ((k : ℕ) → k < length xs → get_or xs k 0 ≡ x → ⊥) → position x xs ≡ None
unfolding position
position-none x xs n = from-none zero x xs n

-- ---- from the place to the list

from_found : (j x : ℕ) (xs : List ℕ) (i : ℕ) → position_from j x xs ≡ Some i → (k : ℕ) × (i ≡ j + k) × (k < length xs) × (get_or xs k 0 ≡ x)
unfolding position_from
from_found j x [] i e = absurd (let z : ◌≡◌ {A = ℕ} 0 1 = cc in omega arith)
from_found j x (y ∷ ys) i e = on_same x y
    (λ q. let f : Some j ≡ Some i = rw (eq-eqb x y q) at e in let g : j ≡ i = cc in (zero, omega arith, zero-lt-suc (length ys), sym q))
    (λ q. let r = from_found (suc j) x ys i (rw (ne_eqb x y q) at e) in (suc r.0, omega (arith, r.1), suc-le-suc r.2, r.3))

pub position-found : (x : ℕ) (xs : List ℕ) (i : ℕ) → position x xs ≡ Some i → (i < length xs) × (get_or xs i 0 ≡ x)
unfolding position
position-found x xs i e =
    let r = from_found zero x xs i e in let q : i ≡ r.0 = r.1 ∙ zero-add r.0 in (rw q r.2, rw q r.3)

from-missing : (j x : ℕ) (xs : List ℕ) → position_from j x xs ≡ None → (k : ℕ) → k < length xs → get_or xs k 0 ≡ x → ⊥
unfolding position_from
from-missing j x [] e k h q = absurd (not-suc-le-zero h)
from-missing j x (y ∷ ys) e zero h q = let f : Some j ≡ None = rw (eq-eqb x y (sym q)) at e in let z : ◌≡◌ {A = ℕ} 0 1 = cc in omega arith
from-missing j x (y ∷ ys) e (suc k) h q = on_same x y
    (λ p. let f : Some j ≡ None = rw (eq-eqb x y p) at e in let z : ◌≡◌ {A = ℕ} 0 1 = cc in omega arith)
    (λ p. from-missing (suc j) x ys (rw (ne_eqb x y p) at e) k (le_of_suc-le-suc h) q)

pub position-missing : (x : ℕ) (xs : List ℕ) → position x xs ≡ None → (k : ℕ) → k < length xs → get_or xs k 0 ≡ x → ⊥
unfolding position
position-missing x xs e = from-missing zero x xs e

-- ---- a place is found exactly of what is in the list

pub found-live : (x : ℕ) (xs : List ℕ) (i : ℕ) → position x xs ≡ Some i → is_live xs x ≡ true
found-live x xs i e = let r = position-found x xs i e in ap (λ (y : ℕ). memb y xs) (sym r.1) ∙ memb-getD xs i r.0

pub missing-dead : (x : ℕ) (xs : List ℕ) → position x xs ≡ None → is_live xs x ≡ false
missing-dead x xs e = on (memb x xs) (λ m. let r = memb-at x xs m in absurd (position-missing x xs e r.0 r.1 r.2)) (λ m. m)

-- in an ascending list a place that has the number is where it is found
pub position_here : (x : ℕ) (xs : List ℕ) (i : ℕ) → Ascending xs → i < length xs → get_or xs i 0 ≡ x → Some i ≡ position x xs
position_here x xs i asc h e =
    sym (position_at x xs i h e (λ k l q. ascending-apart xs asc k i (omega arith) h (λ w. omega arith) (q ∙ sym e)))

-- as many numbers as there are below the bound: the number is its place
module _ (x : ℕ) (xs : List ℕ) (asc : Ascending xs) (below : (i : ℕ) → i < length xs → get_or xs i 0 < length xs) where
  pub dense-found : x < length xs → Some x ≡ position x xs
  dense-found h = position_here x xs x asc h (dense-at xs asc below x h)

  pub dense-none : length xs ≤ x → None ≡ position x xs
  dense-none h = sym (position-none x xs (λ k l q. let b = below k l in omega arith))

  pub dense-live : is_live xs x ≡ is_below (length xs) x
  dense-live =
      on_below x (length xs)
      (λ h. found-live x xs x (sym (dense-found h)) ∙ sym (lt-ltb x (length xs) h))
      (λ h. missing-dead x xs (sym (dense-none h)) ∙ sym (le-ltb x (length xs) h))

-- ---- the first of a list that is not live: a loop over i, with `drop i xs` left

module _ (live xs : List ℕ) (i : ℕ) (p : Option ℕ) (whole : Option ℕ) (inv : first_missing_from i live (drop i xs) ≡ whole) where
  pub missing-on : (k : ℕ) → i < length xs → p ≡ position (get_or xs i 0) live → p ≡ Some k → first_missing_from (i + 1) live (drop (i + 1) xs) ≡ whole
  unfolding first_missing_from
  missing-on k h e q =
      rw add-one (rw (drop-cons xs i 0 h, found-live (get_or xs i 0) live k (sym e ∙ q)) at inv)

  pub missing-here : i < length xs → p ≡ position (get_or xs i 0) live → p ≡ None → Some i ≡ whole
  unfolding first_missing_from
  missing-here h e q = rw (drop-cons xs i 0 h, missing-dead (get_or xs i 0) live (sym e ∙ q)) at inv

pub missing-none : (live xs : List ℕ) (i : ℕ) (whole : Option ℕ) → first_missing_from i live (drop i xs) ≡ whole → length xs ≤ i → None ≡ whole
unfolding first_missing_from
missing-none live xs i whole inv h = rw (drop_of_length-le xs h) at inv
