-- Laws of `count`, and the pigeonhole: a list with no repeat of numbers below n is at most n long. Assumes nothing.
use mathlib.Core.Path.{◌≡◌, refl, sym, ap, ◌∙◌, subst}
use mathlib.Core.Bool.{Bool, true, false, ◌||◌}
use mathlib.Core.Logic.{◌⊎◌, inl, inr, ⊎_elim}
use mathlib.Core.List.{List, [], ◌∷◌}
use Prim.Native.Nat.{ℕ, zero, suc, ◌+◌, ◌≤◌, ◌<◌}
use native.Mathlib.Nat.{le_of_suc-le-suc, not-suc-le-zero, eq-or-lt_of_le, lt_irrefl, le_antisymm, add-zero, add-suc}
use native.Mathlib.Numerals.{add-one}
use native.Mathlib.Omega.{arith}
use lib.Dec.{eqb}
use lib.ListN.{length}
use borrow.Author.Tests.{eq-eqb, ne_eqb}
use Rattle.lists.specs.Tests.{bit, count}
use Rattle.lists.specs.Lists.{memb, Distinct}
use Rattle.lists.specs.Inner.{Below}
use Rattle.lists.proofs.Cases.{true-or-false, on_same}
use Rattle.lists.proofs.Memb.{memb-self}

pub bit_le : (b : Bool) → bit b ≤ 1
bit_le true = omega arith
bit_le false = omega arith

pub bit-one : (b : Bool) → eqb (bit b) 1 ≡ b
bit-one true = refl
bit-one false = refl

pub count-le : (p : ℕ → Bool) (n : ℕ) → count p n ≤ n
count-le p zero = omega arith
count-le p (suc n) = omega (arith, bit_le (p n), count-le p n)

pub count-ext : (p q : ℕ → Bool) (n : ℕ) → ((i : ℕ) → i < n → p i ≡ q i) → count p n ≡ count q n
count-ext p q zero h = refl
count-ext p q (suc n) h =
    omega (arith, ap bit (h n (omega arith)), count-ext p q n (λ i l. h i (omega arith)))

split : (x n : ℕ) → x < suc n → (x ≡ n) ⊎ (x < n)
split x n h = eq-or-lt_of_le (le_of_suc-le-suc h)

-- one more number passes q than p
pub count-flip : (p q : ℕ → Bool) (x n : ℕ) → x < n → p x ≡ false → q x ≡ true → ((y : ℕ) → (y ≡ x → ⊥) → q y ≡ p y) → count q n ≡ suc (count p n)
count-flip p q x zero l px qx h = absurd (not-suc-le-zero l)
count-flip p q x (suc n) l px qx h =
    ⊎_elim
    (λ e. omega (
      arith,
      ap bit (subst (λ (z : ℕ). p z ≡ false) e px),
      ap bit (subst (λ (z : ℕ). q z ≡ true) e qx),
      count-ext q p n (λ i li. h i (λ ei. lt_irrefl n (subst (λ (z : ℕ). z < n) (ei ∙ e) li))),
    ))
    (λ lt. omega (arith, ap bit (h n (λ e. lt_irrefl n (subst (λ (z : ℕ). z < n) (sym e) lt))), count-flip p q x n lt px qx h))
    (split x n l)

pub count-mono : (p q : ℕ → Bool) (n : ℕ) → ((i : ℕ) → i < n → p i ≡ true → q i ≡ true) → count p n ≤ count q n
count-mono p q zero h = omega arith
count-mono p q (suc n) h =
    ⊎_elim
    (λ e. omega (arith, ap bit e, ap bit (h n (omega arith) e), count-mono p q n (λ i l. h i (omega arith))))
    (λ e. omega (arith, ap bit e, count-mono p q n (λ i l. h i (omega arith))))
    (true-or-false (p n))

-- a number that fails leaves the count below n
pub count-lt : (p : ℕ → Bool) (x n : ℕ) → x < n → p x ≡ false → count p n < n
count-lt p x n l px =
    let q : ℕ → Bool = λ y. eqb y x || p y in
    omega (
      arith,
      count-le q n,
      count-flip p q x n l px (ap (λ (t : Bool). t || p x) (eq-eqb x x refl)) (λ y ne. ap (λ (t : Bool). t || p y) (ne_eqb y x ne)),
    )

-- a number below n that fails, or none
pub find : (p : ℕ → Bool) (n : ℕ) → ((x : ℕ) × (x < n) × (p x ≡ false)) ⊎ ((i : ℕ) → i < n → p i ≡ true)
find p zero = inr (λ i l. absurd (not-suc-le-zero l))
find p (suc n) =
    ⊎_elim
    (λ r. inl (r.0, omega (arith, r.1), r.2))
    (λ all. ⊎_elim
    (λ e. inr (λ i l. ⊎_elim (λ s. subst (λ (z : ℕ). p z ≡ true) (sym s) e) (λ lt. all i lt) (split i n l)))
    (λ e. inl (n, omega arith, e))
    (true-or-false (p n)))
    (find p n)

-- the length of a list with no repeat is how many numbers are in it
pub length-count : (l : List ℕ) (n : ℕ) → Distinct l → Below n l → length l ≡ count (λ i. memb i l) n
length-count [] n d b = sym (none n)
  where
    none : (m : ℕ) → count (λ i. false) m ≡ 0
    none zero = refl
    none (suc m) = omega (arith, none m)
length-count (x ∷ l) n d b =
    omega (
      arith,
      length-count l n d.1 b.1,
      count-flip (λ i. memb i l) (λ i. memb i (x ∷ l)) x n b.0 d.0 (memb-self x l)
          (λ y ne. ap (λ (t : Bool). t || memb y l) (ne_eqb y x ne)),
    )

pub pigeon : (l : List ℕ) (n : ℕ) → Distinct l → Below n l → length l ≤ n
pigeon l n d b = omega (arith, length-count l n d b, count-le (λ i. memb i l) n)

-- a list with no repeat that lacks a number below n is shorter than n
pub room : (l : List ℕ) (n x : ℕ) → Distinct l → Below n l → x < n → memb x l ≡ false → length l < n
room l n x d b h e = pigeon (x ∷ l) n (e, d) (h, b)

-- one that has n numbers has every number below n
pub full : (l : List ℕ) (n : ℕ) → Distinct l → Below n l → n ≤ length l → (x : ℕ) → x < n → memb x l ≡ true
full l n d b h x hx = ⊎_elim (λ e. e) (λ e. absurd (lt_irrefl n (omega (arith, room l n x d b hx e)))) (true-or-false (memb x l))

pub count-all : (p : ℕ → Bool) (n : ℕ) → ((i : ℕ) → i < n → p i ≡ true) → count p n ≡ n
count-all p zero h = refl
count-all p (suc n) h = omega (arith, ap bit (h n (omega arith)), count-all p n (λ i l. h i (omega arith)))

pub count_none : (p : ℕ → Bool) (n : ℕ) → ((i : ℕ) → i < n → p i ≡ false) → count p n ≡ 0
count_none p zero h = refl
count_none p (suc n) h = omega (arith, ap bit (h n (omega arith)), count_none p n (λ i l. h i (omega arith)))

-- a list with no repeat that is shorter than n lacks a number below n
pub lacks : (l : List ℕ) (n : ℕ) → Distinct l → Below n l → length l < n → (x : ℕ) × (x < n) × (memb x l ≡ false)
lacks l n d b h =
    ⊎_elim (λ r. r)
    (λ (all : (i : ℕ) → i < n → memb i l ≡ true). absurd (lt_irrefl n (omega (arith, length-count l n d b, count-all (λ i. memb i l) n all))))
    (find (λ i. memb i l) n)

-- a number that passes leaves room for itself
pub count-below : (p : ℕ → Bool) (n j : ℕ) → j < n → p j ≡ true → count p j < count p n
count-below p zero j l e = absurd (lt_irrefl 0 (omega arith))
count-below p (suc n) j l e =
    on_same j n
    (λ s. omega (arith, ap (count p) s, ap bit (subst (λ (z : ℕ). p z ≡ true) s e)))
    (λ ne. omega (arith, count-below p n j (omega arith) e))

pub count-upto : (p : ℕ → Bool) (n j : ℕ) → j ≤ n → count p j ≤ count p n
count-upto p zero j l = omega (arith, count-le p j)
count-upto p (suc n) j l =
    on_same j (suc n)
    (λ s. omega (arith, ap (count p) s))
    (λ ne. omega (arith, count-upto p n j (omega arith)))

-- the first a numbers, and the b after them
pub count-plus : (p : ℕ → Bool) (a b : ℕ) → count p (a + b) ≡ count p a + count (λ i. p (a + i)) b
count-plus p a zero = ap (count p) (add-zero a) ∙ sym (add-zero (count p a))
count-plus p a (suc b) = ap (count p) (add-suc a b) ∙ omega (arith, count-plus p a b)

-- where none passes from n on, as many pass below k as below n
pub count-within : (p : ℕ → Bool) (n k : ℕ) → n ≤ k → ((i : ℕ) → n ≤ i → i < k → p i ≡ false) → count p k ≡ count p n
count-within p n zero l h = ap (count p) (le_antisymm (omega arith) l)
count-within p n (suc k) l h =
    on_same n (suc k)
    (λ e. ap (count p) (sym e))
    (λ ne. omega (arith, ap bit (h k (omega arith) (omega arith)), count-within p n k (omega arith) (λ i a b. h i a (omega arith))))

-- a loop over k that counts: c so far
module _ (p : ℕ → Bool) (k c : ℕ) (e : c ≡ count p k) where
  pub count-in : (more : ℕ) → p k ≡ true → more ≡ c + 1 → more ≡ count p (k + 1)
  count-in more h q = rw (add-one k) (omega (arith, ap bit h))

  pub count-out : (more : ℕ) → p k ≡ false → more ≡ c → more ≡ count p (k + 1)
  count-out more h q = rw (add-one k) (omega (arith, ap bit h))

  pub count-end : (n : ℕ) → k ≤ n → n ≤ k → c ≡ count p n
  count-end n a b = e ∙ ap (count p) (le_antisymm a b)
