-- Laws of what filtering keeps, and of lists changed element by element. Assumes nothing.
use mathlib.Core.Path.{◌≡◌, refl, sym, ap, ap₂, ◌∙◌}
use mathlib.Core.Bool.{Bool, true, false, cond, not, ◌||◌}
use mathlib.Core.Logic.{⊎_elim}
use mathlib.Core.List.{List, [], ◌∷◌, map}
use Prim.Native.Nat.{ℕ, ◌≤◌, suc-le-suc}
use native.Mathlib.Omega.{arith}
use lib.Dec.{eqb, ltb}
use lib.ListN.{length}
use borrow.Author.Tests.{eqb-false, eq-eqb, ne_eqb}
use Rattle.lists.specs.Tests.{◌and◌}
use Rattle.lists.specs.Lists.{all, any, memb, filter, other_than, ascending}
use Rattle.lists.proofs.Cases.{on, on_same, clash, and_left, and_right, and_both, and-false-left, and-false-right, or-true, or_right, or-false-left, or-false-right}

-- ---- element by element

pub map-ext : {A B : Type 0} (f g : A → B) (xs : List A) → ((x : A) → f x ≡ g x) → map f xs ≡ map g xs
map-ext f g [] h = refl
map-ext f g (x ∷ xs) h = ap₂ ◌∷◌ (h x) (map-ext f g xs h)

pub filter-ext : {A : Type 0} (p q : A → Bool) (xs : List A) → ((x : A) → p x ≡ q x) → filter p xs ≡ filter q xs
unfolding filter
filter-ext p q [] h = refl
filter-ext p q (x ∷ xs) h = rw (h x, filter-ext p q xs h)

-- a test that always passes
pub all-always : {A : Type 0} (f : A → Bool) (xs : List A) → ((x : A) → f x ≡ true) → all f xs ≡ true
unfolding all
all-always f [] h = refl
all-always f (x ∷ xs) h = and_both _ _ (h x) (all-always f xs h)

-- a test that follows from another
pub all_then : {A : Type 0} (f g : A → Bool) (xs : List A) → ((x : A) → f x ≡ true → g x ≡ true) → all f xs ≡ true → all g xs ≡ true
unfolding all
all_then f g [] h e = refl
all_then f g (x ∷ xs) h e = and_both _ _ (h x (and_left _ _ e)) (all_then f g xs h (and_right _ _ e))

-- two tests of one list
pub all_both : {A : Type 0} (f g : A → Bool) (xs : List A) → all f xs ≡ true → all g xs ≡ true → all (λ x. f x and g x) xs ≡ true
unfolding all
all_both f g [] p q = refl
all_both f g (x ∷ xs) p q = and_both _ _ (and_both _ _ (and_left _ _ p) (and_left _ _ q)) (all_both f g xs (and_right _ _ p) (and_right _ _ q))

-- what is left where all stay as they are
pub map_whole : {A : Type 0} (f : A → A) (p : A → Bool) (xs : List A) → ((x : A) → p x ≡ true → f x ≡ x) → all p xs ≡ true → map f xs ≡ xs
unfolding all
map_whole f p [] h e = refl
map_whole f p (x ∷ xs) h e = ap₂ ◌∷◌ (h x (and_left _ _ e)) (map_whole f p xs h (and_right _ _ e))

module _ {A B : Type 0} (f : A → B) where
  pub all_map : (p : B → Bool) (xs : List A) → all p (map f xs) ≡ all (λ x. p (f x)) xs
  unfolding all
  all_map p [] = refl
  all_map p (x ∷ xs) = ap (λ (b : Bool). p (f x) and b) (all_map p xs)

  pub any-map : (p : B → Bool) (xs : List A) → any p (map f xs) ≡ any (λ x. p (f x)) xs
  unfolding any
  any-map p [] = refl
  any-map p (x ∷ xs) = ap (λ (b : Bool). p (f x) || b) (any-map p xs)

  pub filter_map : (p : B → Bool) (xs : List A) → filter p (map f xs) ≡ map f (filter (λ x. p (f x)) xs)
  unfolding filter
  filter_map p [] = refl
  filter_map p (x ∷ xs) = on (p (f x)) (λ e. rw e (ap (λ (r : List B). f x ∷ r) (filter_map p xs))) (λ e. rw e (filter_map p xs))

-- one that passes, and what passes at it passes at some of the list
pub any_at : {A : Type 0} (p : A → Bool) (xs : List A) → any p xs ≡ true
    → (x : A) × (p x ≡ true) × ((q : A → Bool) → q x ≡ true → any q xs ≡ true)
unfolding any
any_at p [] e = clash e refl
any_at p (x ∷ xs) e =
    on (p x) (λ h. (x, h, λ q k. ap (λ (b : Bool). b || any q xs) k))
    (λ h. let r = any_at p xs (rw h at e) in (r.0, r.1, λ q k. or_right (q x) (any q xs) (r.2 q k)))

-- ---- what is kept

module _ {A : Type 0} (p : A → Bool) where
  pub filter-length : (xs : List A) → length (filter p xs) ≤ length xs
  unfolding filter
  filter-length [] = omega arith
  filter-length (x ∷ xs) = on (p x) (λ e. rw e (suc-le-suc (filter-length xs))) (λ e. rw e (omega (arith, filter-length xs)))

  -- all that are kept pass
  pub filter-pass : (xs : List A) → all p (filter p xs) ≡ true
  unfolding filter all
  filter-pass [] = refl
  filter-pass (x ∷ xs) = on (p x) (λ e. rw e (and_both _ _ e (filter-pass xs))) (λ e. rw e (filter-pass xs))

  -- all are kept
  pub filter-whole : (xs : List A) → all p xs ≡ true → filter p xs ≡ xs
  unfolding filter all
  filter-whole [] e = refl
  filter-whole (x ∷ xs) e = rw (and_left (p x) (all p xs) e) (ap (λ (r : List A). x ∷ r) (filter-whole xs (and_right (p x) (all p xs) e)))

  pub all-kept : (f : A → Bool) (xs : List A) → all f xs ≡ true → all f (filter p xs) ≡ true
  unfolding filter all
  all-kept f [] e = refl
  all-kept f (x ∷ xs) e =
      on (p x) (λ h. rw h (and_both _ _ (and_left _ _ e) (all-kept f xs (and_right _ _ e)))) (λ h. rw h (all-kept f xs (and_right _ _ e)))

  pub any-kept : (f : A → Bool) (xs : List A) → any f (filter p xs) ≡ true → any f xs ≡ true
  unfolding filter any
  any-kept f [] e = e
  any-kept f (x ∷ xs) e =
      on (p x)
      (λ h. ⊎_elim (λ a. ap (λ (b : Bool). b || any f xs) a) (λ a. or_right (f x) (any f xs) (any-kept f xs a)) (or-true (f x) (any f (filter p xs)) (rw h at e)))
      (λ h. or_right (f x) (any f xs) (any-kept f xs (rw h at e)))

  pub filter-filter : (q : A → Bool) (xs : List A) → filter q (filter p xs) ≡ filter (λ x. p x and q x) xs
  unfolding filter ◌and◌
  filter-filter q [] = refl
  filter-filter q (x ∷ xs) =
      on (p x)
      (λ e. rw e (ap (λ (r : List A). cond (q x) (x ∷ r) r) (filter-filter q xs)))
      (λ e. rw e (filter-filter q xs))

  -- the order of two filters
  pub filter-swap : (q : A → Bool) (xs : List A) → filter q (filter p xs) ≡ filter p (filter q xs)
  unfolding filter
  filter-swap q [] = refl
  filter-swap q (x ∷ xs) =
      on (p x)
      (λ a. on (q x) (λ b. rw (a, b, a) (ap (λ (r : List A). x ∷ r) (filter-swap q xs))) (λ b. rw (a, b) (filter-swap q xs)))
      (λ a. on (q x) (λ b. rw (a, b, a) (filter-swap q xs)) (λ b. rw (a, b) (filter-swap q xs)))

  -- a first filter that drops only what the last one drops
  pub filter-late : {B : Type 0} (f : A → B) (q : B → Bool) → ((x : A) → p x ≡ false → q (f x) ≡ false) → (xs : List A)
      → filter q (map f (filter p xs)) ≡ filter q (map f xs)
  unfolding filter
  filter-late f q h [] = refl
  filter-late {B} f q h (x ∷ xs) =
      on (p x)
      (λ e. rw e (ap (λ (r : List B). cond (q (f x)) (f x ∷ r) r) (filter-late f q h xs)))
      (λ e. rw (e, h x e) (filter-late f q h xs))

  -- the keys of those kept
  pub keys_kept : (f : A → ℕ) (g : ℕ → Bool) (xs : List A) → all g (map f xs) ≡ true → all g (map f (filter p xs)) ≡ true
  keys_kept f g xs e = all_map f g (filter p xs) ∙ all-kept (λ x. g (f x)) xs (sym (all_map f g xs) ∙ e)

  pub ascending-kept : (f : A → ℕ) (xs : List A) → ascending (map f xs) ≡ true → ascending (map f (filter p xs)) ≡ true
  unfolding filter ascending
  ascending-kept f [] e = refl
  ascending-kept f (x ∷ xs) e =
      on (p x)
      (λ h. rw h (and_both _ _ (keys_kept f (ltb (f x)) xs (and_left _ _ e)) (ascending-kept f xs (and_right _ _ e))))
      (λ h. rw h (ascending-kept f xs (and_right _ _ e)))

-- ---- members and keys

pub memb-filter : (p : ℕ → Bool) (x : ℕ) (xs : List ℕ) → memb x (filter p xs) ≡ (p x and memb x xs)
unfolding filter ◌and◌
memb-filter p x [] = sym (and-false-right (p x) false refl)
memb-filter p x (y ∷ ys) =
    on_same x y
    (λ e. on (p x)
    (λ h. rw (h, ← ap p e, h, eq-eqb x y e))
    (λ h. rw (← ap p e, h) (memb-filter p x ys ∙ and-false-left (p x) _ h)))
    (λ ne. on (p y)
    (λ h. rw (h, ne_eqb x y ne) (memb-filter p x ys))
    (λ h. rw (h, ne_eqb x y ne) (memb-filter p x ys)))

-- k is no key
pub all-other : {A : Type 0} (f : A → ℕ) (k : ℕ) (xs : List A) → memb k (map f xs) ≡ false → all (other_than f k) xs ≡ true
unfolding all other_than
all-other f k [] e = refl
all-other f k (x ∷ xs) e =
    and_both _ _
    (ap not (ne_eqb (f x) k (λ q. eqb-false k (f x) (or-false-left (eqb k (f x)) _ e) (sym q))))
    (all-other f k xs (or-false-right (eqb k (f x)) _ e))
