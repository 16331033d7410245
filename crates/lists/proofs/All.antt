-- Laws of `all` and `zeros`. Assumes nothing.
use mathlib.Core.Path.{◌≡◌, refl, sym, ap, ap₂, ◌∙◌}
use mathlib.Core.Bool.{Bool, true, false, not}
use mathlib.Core.List.{List, [], ◌∷◌, ◌++◌}
use Prim.Native.Nat.{ℕ, zero, suc, ◌+◌, ◌≤◌, ◌<◌, suc-le-suc}
use native.Mathlib.Nat.{not-suc-le-zero, le_of_suc-le-suc, zero-lt-suc}
use native.Mathlib.Numerals.{add-one}
use lib.Dec.{eqb, ltb}
use lib.ListN.{length, get_or, take, drop, drop_of_length-le, replicate}
use lib.Seq.{drop-cons, take-suc, take_all}
use native.Mathlib.Omega.{arith}
use borrow.Author.Tests.{eqb-true, eq-eqb, ne_eqb, le-ltb, lt-ltb, not-true, not-false}
use Rattle.lists.specs.Tests.{◌and◌}
use Rattle.lists.specs.Lists.{all, zeros, is_below}
use Rattle.lists.proofs.Cases.{and_left, and_right, and_both, and-false-right, and-true, and_assoc, on_same}

module _ {A : Type 0} (f : A → Bool) where
  pub all-at : (xs : List A) (i : ℕ) (d : A) → all f xs ≡ true → i < length xs → f (get_or xs i d) ≡ true
  unfolding all
  all-at [] i d e h = absurd (not-suc-le-zero h)
  all-at (x ∷ xs) zero d e h = and_left (f x) (all f xs) e
  all-at (x ∷ xs) (suc i) d e h = all-at xs i d (and_right (f x) (all f xs) e) (le_of_suc-le-suc h)

  pub all_of : (xs : List A) (d : A) → ((i : ℕ) → i < length xs → f (get_or xs i d) ≡ true) → all f xs ≡ true
  unfolding all
  all_of [] d h = refl
  all_of (x ∷ xs) d h = and_both (f x) (all f xs) (h zero (zero-lt-suc (length xs))) (all_of xs d (λ i l. h (suc i) (suc-le-suc l)))

  pub all_snoc : (xs : List A) (x : A) → all f (xs ++ (x ∷ [])) ≡ (all f xs and f x)
  unfolding all ◌and◌
  all_snoc [] x = and-true (f x)
  all_snoc (y ∷ ys) x = ap (λ (b : Bool). f y and b) (all_snoc ys x) ∙ sym (and_assoc (f y) (all f ys) (f x))

  -- two lists, one after the other
  pub all_join : (xs ys : List A) → all f xs ≡ true → all f ys ≡ true → all f (xs ++ ys) ≡ true
  unfolding all
  all_join [] ys a b = b
  all_join (x ∷ xs) ys a b = and_both (f x) (all f (xs ++ ys)) (and_left (f x) (all f xs) a) (all_join xs ys (and_right (f x) (all f xs) a) b)

  pub all_append : (xs ys : List A) → all f (xs ++ ys) ≡ true → (all f xs ≡ true) × (all f ys ≡ true)
  unfolding all
  all_append [] ys h = (refl, h)
  all_append (x ∷ xs) ys h =
      let r = all_append xs ys (and_right (f x) (all f (xs ++ ys)) h) in
      (and_both (f x) (all f xs) (and_left (f x) (all f (xs ++ ys)) h) r.0, r.1)

pub all-ext : {A : Type 0} (f g : A → Bool) (xs : List A) → ((x : A) → f x ≡ g x) → all f xs ≡ all g xs
unfolding all
all-ext f g [] h = refl
all-ext f g (x ∷ xs) h = ap₂ ◌and◌ (h x) (all-ext f g xs h)

-- a loop over i that ends early: what is left is `drop i xs`, and `whole` is what the loop is to answer
module _ {A : Type 0} (f : A → Bool) (xs : List A) (i : ℕ) (whole : Bool) (inv : all f (drop i xs) ≡ whole) where
  turn : (d : A) → i < length xs → all f (drop i xs) ≡ (f (get_or xs i d) and all f (drop (i + 1) xs))
  unfolding all
  turn d h = rw (add-one, drop-cons xs i d h)

  -- r is what the code found of the element at i, and it tested `!r`
  module _ (d : A) (r : Bool) (e : r ≡ f (get_or xs i d)) (h : i < length xs) where
    pub all-on : not r ≡ false → all f (drop (i + 1) xs) ≡ whole
    unfolding ◌and◌
    all-on q = sym (turn d h ∙ rw (← e, not-false r q)) ∙ inv

    pub all-no : not r ≡ true → false ≡ whole
    unfolding ◌and◌
    all-no q = sym (turn d h ∙ rw (← e, not-true r q)) ∙ inv

  pub all_end : length xs ≤ i → true ≡ whole
  unfolding all
  all_end h = rw (drop_of_length-le xs h) at inv

-- a loop over i that looks at every element: ok says that the first i pass
module _ {A : Type 0} (f : A → Bool) (xs : List A) (i : ℕ) (ok : Bool) (inv : ok ≡ all f (take i xs)) where
  first_more : (d : A) → i < length xs → all f (take (i + 1) xs) ≡ (all f (take i xs) and f (get_or xs i d))
  first_more d h = rw (add-one, take-suc xs i d h) (all_snoc f (take i xs) (get_or xs i d))

  pub first-pass : (d : A) → i < length xs → f (get_or xs i d) ≡ true → ok ≡ all f (take (i + 1) xs)
  first-pass d h e = sym (first_more d h ∙ rw e (and-true _) ∙ sym inv)

  pub first-fail : (d : A) → i < length xs → f (get_or xs i d) ≡ false → false ≡ all f (take (i + 1) xs)
  first-fail d h e = sym (first_more d h ∙ and-false-right _ _ e)

  pub first-all : length xs ≤ i → ok ≡ all f xs
  first-all h = inv ∙ ap (all f) (take_all i xs h)

-- ---- words that are 0

pub below_one : (xs : List ℕ) → all (is_below 1) xs ≡ zeros xs
unfolding all zeros
below_one [] = refl
below_one (x ∷ xs) = ap₂ ◌and◌ (one x) (below_one xs)
  where
    one : (x : ℕ) → ltb x 1 ≡ eqb 0 x
    one x =
        on_same 0 x (λ e. lt-ltb x 1 (omega arith) ∙ sym (eq-eqb 0 x e))
        (λ ne. le-ltb x 1 (pos x ne) ∙ sym (ne_eqb 0 x ne))
      where
        pos : (x : ℕ) → (0 ≡ x → ⊥) → 1 ≤ x
        pos zero ne = absurd (ne refl)
        pos (suc x) ne = omega arith

pub zeros-are : (xs : List ℕ) → zeros xs ≡ true → xs ≡ replicate (length xs) 0
unfolding zeros all
zeros-are [] e = refl
zeros-are (x ∷ xs) e = ap₂ ◌∷◌ (sym (eqb-true 0 x (and_left _ _ e))) (zeros-are xs (and_right _ _ e))
