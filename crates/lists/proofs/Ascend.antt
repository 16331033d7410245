-- Laws of strictly ascending lists, and the test that a loop makes of them. Assumes nothing.
use mathlib.Core.Path.{◌≡◌, refl, sym, ap, subst}
use mathlib.Core.Bool.{Bool, true, false}
use mathlib.Core.Logic.{⊎_elim}
use mathlib.Core.List.{List, [], ◌∷◌}
use Prim.Native.Nat.{ℕ, zero, suc, ◌+◌, ◌-◌, ◌≤◌, ◌<◌, suc-le-suc}
use native.Mathlib.Nat.{not-suc-le-zero, le_of_suc-le-suc, zero-lt-suc, lt_irrefl}
use native.Mathlib.Numerals.{add-one}
use native.Mathlib.Omega.{arith}
use lib.Dec.{eqb, leb, ltb}
use lib.ListN.{length, get_or, drop, drop_of_length-le}
use borrow.Author.Tests.{eqb-true, leb-true, ltb-true, le-leb, lt-leb, lt-ltb, le-ltb}
use Rattle.lists.specs.Tests.{◌and◌}
use Rattle.lists.specs.Lists.{all, memb, ascending, Ascending, is_below, tab}
use Rattle.lists.proofs.Cases.{clash, and_left, and_right, and_both, or-true, or_right, on_below, test-ext}
use Rattle.lists.proofs.All.{all-at, all_of}
use Rattle.lists.proofs.Memb.{memb-self, memb-at}
use Rattle.lists.proofs.Tab.{drop-tab, length-tab}

pub ascending-at : (xs : List ℕ) → ascending xs ≡ true → Ascending xs
unfolding ascending
ascending-at [] e i j l h = absurd (not-suc-le-zero h)
ascending-at (x ∷ xs) e i zero l h = absurd (not-suc-le-zero l)
ascending-at (x ∷ xs) e zero (suc j) l h = ltb-true x _ (all-at (ltb x) xs j 0 (and_left _ _ e) (le_of_suc-le-suc h))
ascending-at (x ∷ xs) e (suc i) (suc j) l h = ascending-at xs (and_right _ _ e) i j (le_of_suc-le-suc l) (le_of_suc-le-suc h)

pub ascending-of : (xs : List ℕ) → Ascending xs → ascending xs ≡ true
unfolding ascending
ascending-of [] a = refl
ascending-of (x ∷ xs) a =
    and_both _ _ (all_of (ltb x) xs 0 (λ i l. lt-ltb x (get_or xs i 0) (a zero (suc i) (zero-lt-suc i) (suc-le-suc l))))
    (ascending-of xs (λ i j l h. a (suc i) (suc j) (suc-le-suc l) (suc-le-suc h)))

module _ (xs : List ℕ) (asc : Ascending xs) where
  -- two places do not hold the same number
  pub ascending-apart : (i k : ℕ) → i < length xs → k < length xs → (i ≡ k → ⊥) → get_or xs i 0 ≡ get_or xs k 0 → ⊥
  ascending-apart i k hi hk ne e =
      on_below i k
      (λ l. let p : get_or xs i 0 < get_or xs k 0 = asc i k l hk in omega arith)
      (λ l. let p : get_or xs k 0 < get_or xs i 0 = asc k i (omega arith) hi in omega arith)

  -- numbers rise at least as fast as places
  gap : (i d : ℕ) → i + d < length xs → get_or xs i 0 + d ≤ get_or xs (i + d) 0
  gap i zero h = let e : i + 0 ≡ i = omega arith in omega (arith, ap (λ (k : ℕ). get_or xs k 0) e)
  gap i (suc d) h =
      let e : i + suc d ≡ suc (i + d) = omega arith in
      omega (arith, gap i d (omega arith), asc (i + d) (suc (i + d)) (omega arith) (omega arith), ap (λ (k : ℕ). get_or xs k 0) e)

  -- as many numbers as there are below the bound: each is its own place
  pub dense-at : ((i : ℕ) → i < length xs → get_or xs i 0 < length xs) → (i : ℕ) → i < length xs → get_or xs i 0 ≡ i
  dense-at below i h =
      let last : ℕ = length xs - suc i in
      let e : 0 + i ≡ i = omega arith in
      omega (arith, gap 0 i (omega arith), ap (λ (k : ℕ). get_or xs k 0) e, gap i last (omega arith), below (i + last) (omega arith))

-- ---- two ascending lists with the same members are one

ascending-tail : (x : ℕ) (xs : List ℕ) → Ascending (x ∷ xs) → Ascending xs
ascending-tail x xs a i j l k = a (suc i) (suc j) (suc-le-suc l) (suc-le-suc k)

head-below : (x : ℕ) (xs : List ℕ) → Ascending (x ∷ xs) → (z : ℕ) → memb z xs ≡ true → x < z
head-below x xs a z e =
    let i = memb-at z xs e in
    subst (λ (y : ℕ). x < y) i.2 (a zero (suc i.0) (zero-lt-suc i.0) (suc-le-suc i.1))

-- what is behind the head of the one is behind the head of the other
tail-memb : (x y : ℕ) (xs ys : List ℕ) → x ≡ y → Ascending (x ∷ xs) → ((z : ℕ) → memb z (x ∷ xs) ≡ true → memb z (y ∷ ys) ≡ true) → (z : ℕ) → memb z xs ≡ true → memb z ys ≡ true
tail-memb x y xs ys s a h z e =
    ⊎_elim
    (λ p. absurd (lt_irrefl x (omega (arith, s, eqb-true z y p, head-below x xs a z e))))
    (λ p. p)
    (or-true (eqb z y) (memb z ys) (h z (or_right (eqb z x) (memb z xs) e)))

pub ascending-same : (xs ys : List ℕ) → Ascending xs → Ascending ys → ((z : ℕ) → memb z xs ≡ true → memb z ys ≡ true) → ((z : ℕ) → memb z ys ≡ true → memb z xs ≡ true) → xs ≡ ys
ascending-same [] [] a b f g = refl
ascending-same [] (y ∷ ys) a b f g = clash (g y (memb-self y ys)) refl
ascending-same (x ∷ xs) [] a b f g = clash (f x (memb-self x xs)) refl
ascending-same (x ∷ xs) (y ∷ ys) a b f g =
    let s : x ≡ y =
    ⊎_elim
    (λ p. eqb-true x y p)
    (λ p. ⊎_elim
    (λ q. sym (eqb-true y x q))
    (λ q. absurd (lt_irrefl x (omega (arith, head-below y ys b x p, head-below x xs a y q))))
    (or-true (eqb y x) (memb y xs) (g y (memb-self y ys))))
    (or-true (eqb x y) (memb x ys) (f x (memb-self x xs))) in
    rw (s, ascending-same xs ys (ascending-tail x xs a) (ascending-tail y ys b) (tail-memb x y xs ys s a f) (tail-memb y x ys xs (sym s) b g))

-- ---- the test that a loop makes: strictly ascending, each at least low and below high

unfoldable pub climbs : ℕ → List ℕ → ℕ → Bool
climbs low [] high = true
climbs low (x ∷ xs) high = leb low x and ltb x high and climbs (suc x) xs high

climbs-low : (low : ℕ) (xs : List ℕ) (high i : ℕ) → climbs low xs high ≡ true → i < length xs → low ≤ get_or xs i 0
unfolding climbs
climbs-low low [] high i e h = absurd (not-suc-le-zero h)
climbs-low low (x ∷ xs) high zero e h = leb-true low x (and_left _ _ e)
climbs-low low (x ∷ xs) high (suc i) e h =
    let a : low ≤ x = leb-true low x (and_left _ _ e) in
    let b : suc x ≤ get_or xs i 0 = climbs-low (suc x) xs high i (and_right _ _ (and_right _ _ e)) (le_of_suc-le-suc h) in
    omega arith

climbs-high : (low : ℕ) (xs : List ℕ) (high i : ℕ) → climbs low xs high ≡ true → i < length xs → get_or xs i 0 < high
unfolding climbs
climbs-high low [] high i e h = absurd (not-suc-le-zero h)
climbs-high low (x ∷ xs) high zero e h = ltb-true x high (and_left _ _ (and_right _ _ e))
climbs-high low (x ∷ xs) high (suc i) e h = climbs-high (suc x) xs high i (and_right _ _ (and_right _ _ e)) (le_of_suc-le-suc h)

climbs-ascending : (low : ℕ) (xs : List ℕ) (high : ℕ) → climbs low xs high ≡ true → Ascending xs
unfolding climbs
climbs-ascending low [] high e i j l h = absurd (not-suc-le-zero h)
climbs-ascending low (x ∷ xs) high e i zero l h = absurd (not-suc-le-zero l)
climbs-ascending low (x ∷ xs) high e zero (suc j) l h = climbs-low (suc x) xs high j (and_right _ _ (and_right _ _ e)) (le_of_suc-le-suc h)
climbs-ascending low (x ∷ xs) high e (suc i) (suc j) l h =
    climbs-ascending (suc x) xs high (and_right _ _ (and_right _ _ e)) i j (le_of_suc-le-suc l) (le_of_suc-le-suc h)

climbs-of : (low : ℕ) (xs : List ℕ) (high : ℕ) → ((i : ℕ) → i < length xs → low ≤ get_or xs i 0) → Ascending xs
    → ((i : ℕ) → i < length xs → get_or xs i 0 < high) → climbs low xs high ≡ true
unfolding climbs
climbs-of low [] high a asc b = refl
climbs-of low (x ∷ xs) high a asc b =
    and_both _ _ (le-leb low x (a zero (zero-lt-suc (length xs)))) (and_both _ _ (lt-ltb x high (b zero (zero-lt-suc (length xs))))
    (climbs-of (suc x) xs high (λ i l. asc zero (suc i) (zero-lt-suc i) (suc-le-suc l))
    (λ i j l h. asc (suc i) (suc j) (suc-le-suc l) (suc-le-suc h)) (λ i l. b (suc i) (suc-le-suc l))))

-- from 0 on it is what the definitions say
pub climbs-is : (xs : List ℕ) (high : ℕ) → climbs 0 xs high ≡ (ascending xs and all (is_below high) xs)
climbs-is xs high =
    test-ext _ _
    (λ e. and_both _ _ (ascending-of xs (climbs-ascending 0 xs high e)) (all_of (is_below high) xs 0 (λ i l. lt-ltb _ high (climbs-high 0 xs high i e l))))
    (λ e. climbs-of 0 xs high (λ i l. omega arith) (ascending-at xs (and_left _ _ e)) (λ i l. ltb-true _ high (all-at (is_below high) xs i 0 (and_right _ _ e) l)))

-- a loop over i along f 0, f 1, .., with low one above the number before: `whole` is what it is to answer
module _ (f : ℕ → ℕ) (n high low i : ℕ) (whole : Bool) (inv : climbs low (drop i (tab f n)) high ≡ whole) where
  pub climb-on : (next : ℕ) → next ≡ f i + 1 → i < n → low ≤ f i → f i < high → climbs next (drop (i + 1) (tab f n)) high ≡ whole
  unfolding climbs ◌and◌
  climb-on next e h a b =
      rw (e, add-one (f i)) (rw (drop-tab f n i h, le-leb low (f i) a, lt-ltb (f i) high b) at inv)

  pub climb-no-low : i < n → f i < low → false ≡ whole
  unfolding climbs ◌and◌
  climb-no-low h a = rw (drop-tab f n i h, lt-leb low (f i) a) at inv

  pub climb-no-high : i < n → low ≤ f i → high ≤ f i → false ≡ whole
  unfolding climbs ◌and◌
  climb-no-high h a b = rw (drop-tab f n i h, le-leb low (f i) a, le-ltb (f i) high b) at inv

  pub climb-yes : n ≤ i → true ≡ whole
  unfolding climbs
  climb-yes h = rw (drop_of_length-le (tab f n) {i = i} (rw length-tab h)) at inv
