-- Laws of `tab`. Assumes nothing.
use mathlib.Core.Path.{◌≡◌, refl, sym, ap, ap₂, ◌∙◌}
use mathlib.Core.List.{List, [], ◌∷◌, ◌++◌, map}
use Prim.Native.Nat.{ℕ, zero, suc, ◌+◌, ◌<◌, suc-le-suc}
use native.Mathlib.Nat.{not-suc-le-zero, le_of_suc-le-suc, zero-lt-suc}
use native.Mathlib.Numerals.{add-one}
use lib.ListN.{length, get_or, drop}
use lib.Seq.{drop-cons}
use Rattle.lists.specs.Lists.{tab}

pub length-tab : {A : Type 0} (f : ℕ → A) (n : ℕ) → length (tab f n) ≡ n
unfolding tab
length-tab f zero = refl
length-tab f (suc n) = ap suc (length-tab (λ i. f (suc i)) n)

pub getD-tab : {A : Type 0} (f : ℕ → A) (n i : ℕ) (d : A) → i < n → get_or (tab f n) i d ≡ f i
unfolding tab
getD-tab f zero i d h = absurd (not-suc-le-zero h)
getD-tab f (suc n) zero d h = refl
getD-tab f (suc n) (suc i) d h = getD-tab (λ i. f (suc i)) n i d (le_of_suc-le-suc h)

pub tab-ext : {A : Type 0} (f g : ℕ → A) (n : ℕ) → ((i : ℕ) → i < n → f i ≡ g i) → tab f n ≡ tab g n
unfolding tab
tab-ext f g zero h = refl
tab-ext f g (suc n) h = ap₂ ◌∷◌ (h zero (zero-lt-suc n)) (tab-ext (λ i. f (suc i)) (λ i. g (suc i)) n (λ i l. h (suc i) (suc-le-suc l)))

pub tab-suc : {A : Type 0} (f : ℕ → A) (n : ℕ) → tab f (suc n) ≡ tab f n ++ (f n ∷ [])
unfolding tab
tab-suc f zero = refl
tab-suc {A} f (suc n) = ap (λ (r : List A). f zero ∷ r) (tab-suc (λ i. f (suc i)) n)

pub map-tab : {A B : Type 0} (g : A → B) (f : ℕ → A) (n : ℕ) → map g (tab f n) ≡ tab (λ i. g (f i)) n
unfolding tab
map-tab g f zero = refl
map-tab {B = B} g f (suc n) = ap (λ (r : List B). g (f zero) ∷ r) (map-tab g (λ i. f (suc i)) n)

-- what a loop over i has left
pub drop-tab : {A : Type 0} (f : ℕ → A) (n i : ℕ) → i < n → drop i (tab f n) ≡ f i ∷ drop (i + 1) (tab f n)
drop-tab {A} f n i h =
    drop-cons (tab f n) i (f zero) (rw length-tab h)
    ∙ ap₂ (λ (x : A) (k : ℕ). x ∷ drop k (tab f n)) (getD-tab f n i (f zero) h) (sym (add-one i))
