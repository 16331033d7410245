-- Laws of `filter`, and of a list of distinct keys without one of them. Assumes nothing.
use mathlib.Core.Path.{◌≡◌, refl, sym, ap, ◌∙◌}
use mathlib.Core.Bool.{Bool, true, false, cond}
use mathlib.Core.List.{List, [], ◌∷◌, ◌++◌, map}
use Prim.Native.Nat.{ℕ, zero, suc, ◌<◌, suc-le-suc}
use native.Mathlib.Nat.{not-suc-le-zero, le_of_suc-le-suc, zero-lt-suc, suc-ne-zero, suc_inj}
use lib.ListN.{length, get_or, take, drop}
use native.Mathlib.Omega.{arith}
use borrow.Author.Tests.{eq-eqb, ne_eqb}
use Rattle.lists.specs.Tests.{chosen}
use Rattle.lists.specs.Lists.{filter, other_than, tab}
use Rattle.lists.proofs.Cases.{on}
use Rattle.lists.proofs.Maps.{map_snoc}
use Rattle.lists.proofs.Tab.{tab-suc}

pub filter-snoc : {A : Type 0} (p : A → Bool) (xs : List A) (x : A) → filter p (xs ++ (x ∷ [])) ≡ cond (p x) (filter p xs ++ (x ∷ [])) (filter p xs)
unfolding filter
filter-snoc p [] x = refl
filter-snoc {A} p (y ∷ ys) x = more (p y) (p x) (filter-snoc p ys x)
  where
    more : (a b : Bool) → filter p (ys ++ (x ∷ [])) ≡ cond b (filter p ys ++ (x ∷ [])) (filter p ys)
        → cond a (y ∷ filter p (ys ++ (x ∷ []))) (filter p (ys ++ (x ∷ []))) ≡ cond b (cond a (y ∷ filter p ys) (filter p ys) ++ (x ∷ [])) (cond a (y ∷ filter p ys) (filter p ys))
    more true true e = ap (λ (r : List A). y ∷ r) e
    more true false e = ap (λ (r : List A). y ∷ r) e
    more false true e = e
    more false false e = e

-- those of f 0, f 1, .. that pass are f of the places that pass
pub filter-tab : {A : Type 0} (p : A → Bool) (q : ℕ → Bool) (f : ℕ → A) (n : ℕ) → ((k : ℕ) → k < n → q k ≡ p (f k)) → map f (chosen q n) ≡ filter p (tab f n)
unfolding filter tab chosen
filter-tab p q f zero h = refl
filter-tab {A} p q f (suc n) h =
    on (q n)
    (λ e. first true e ∙ map_snoc f (chosen q n) n ∙ ap (λ (r : List A). r ++ (f n ∷ [])) (filter-tab p q f n (λ k l. h k (omega arith))) ∙ sym (last true e))
    (λ e. first false e ∙ filter-tab p q f n (λ k l. h k (omega arith)) ∙ sym (last false e))
  where
    first : (b : Bool) → q n ≡ b → map f (chosen q (suc n)) ≡ map f (cond b (chosen q n ++ (n ∷ [])) (chosen q n))
    first b e = ap (λ (b : Bool). map f (cond b (chosen q n ++ (n ∷ [])) (chosen q n))) e

    last : (b : Bool) → q n ≡ b → filter p (tab f (suc n)) ≡ cond b (filter p (tab f n) ++ (f n ∷ [])) (filter p (tab f n))
    last b e =
        ap (filter p) (tab-suc f n) ∙ filter-snoc p (tab f n) (f n)
        ∙ ap (λ (b : Bool). cond b (filter p (tab f n) ++ (f n ∷ [])) (filter p (tab f n))) (sym (h n (omega arith)) ∙ e)

-- all are kept
pub filter-all : {A : Type 0} (f : A → ℕ) (k : ℕ) (xs : List A) (d : A) → ((i : ℕ) → i < length xs → f (get_or xs i d) ≡ k → ⊥) → filter (other_than f k) xs ≡ xs
unfolding filter other_than
filter-all f k [] d h = refl
filter-all {A} f k (x ∷ xs) d h =
    rw (ne_eqb (f x) k (h zero (zero-lt-suc (length xs)))) (ap (λ (r : List A). x ∷ r) (filter-all f k xs d (λ i l. h (suc i) (suc-le-suc l))))

-- only the one at j goes
pub filter-but : {A : Type 0} (f : A → ℕ) (k : ℕ) (xs : List A) (d : A) (j : ℕ) → j < length xs → f (get_or xs j d) ≡ k
    → ((i : ℕ) → i < length xs → (i ≡ j → ⊥) → f (get_or xs i d) ≡ k → ⊥) → filter (other_than f k) xs ≡ take j xs ++ drop (suc j) xs
unfolding filter other_than
filter-but f k [] d j h e n = absurd (not-suc-le-zero h)
filter-but f k (x ∷ xs) d zero h e n =
    rw (eq-eqb (f x) k e) (filter-all f k xs d (λ i l. n (suc i) (suc-le-suc l) (λ q. suc-ne-zero i q)))
filter-but {A} f k (x ∷ xs) d (suc j) h e n =
    rw (ne_eqb (f x) k (n zero (zero-lt-suc (length xs)) (λ q. suc-ne-zero j (sym q))))
    (ap (λ (r : List A). x ∷ r) (filter-but f k xs d j (le_of_suc-le-suc h) e (λ i l q. n (suc i) (suc-le-suc l) (λ w. q (suc_inj w)))))
