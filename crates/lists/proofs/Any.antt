-- Laws of `any`. Assumes nothing.
use mathlib.Core.Path.{◌≡◌, refl, sym, ap, ◌∙◌}
use mathlib.Core.Bool.{Bool, true, ◌||◌, or_assoc}
use mathlib.Core.Logic.{⊎_elim}
use mathlib.Core.List.{List, [], ◌∷◌, ◌++◌}
use Prim.Native.Nat.{ℕ, zero, suc, ◌+◌, ◌<◌, suc-le-suc}
use native.Mathlib.Nat.{not-suc-le-zero, le_of_suc-le-suc, zero-lt-suc}
use native.Mathlib.Numerals.{add-one}
use lib.ListN.{length, get_or, take}
use lib.Seq.{take-suc}
use Rattle.lists.specs.Lists.{any}
use Rattle.lists.proofs.Cases.{clash, or-true, or_right, or-false}

module _ {A : Type 0} (f : A → Bool) where
  pub any_snoc : (xs : List A) (x : A) → any f (xs ++ (x ∷ [])) ≡ (any f xs || f x)
  unfolding any
  any_snoc [] x = or-false (f x)
  any_snoc (y ∷ ys) x = ap (λ (b : Bool). f y || b) (any_snoc ys x) ∙ sym (or_assoc (f y) (any f ys) (f x))

  -- one element more
  pub any-more : (xs : List A) (i : ℕ) (d : A) → i < length xs → any f (take (i + 1) xs) ≡ (any f (take i xs) || f (get_or xs i d))
  any-more xs i d h = rw (add-one i, take-suc xs i d h) (any_snoc (take i xs) (get_or xs i d))

  -- where it passes, it passes at a place
  pub any_at : (xs : List A) (d : A) → any f xs ≡ true → (i : ℕ) × (i < length xs) × (f (get_or xs i d) ≡ true)
  unfolding any
  any_at [] d e = clash e refl
  any_at (x ∷ xs) d e =
      ⊎_elim
      (λ p. (zero, zero-lt-suc (length xs), p))
      (λ p. let r = any_at xs d p in (suc r.0, suc-le-suc r.1, r.2))
      (or-true (f x) (any f xs) e)

  pub any_of : (xs : List A) (d : A) (i : ℕ) → i < length xs → f (get_or xs i d) ≡ true → any f xs ≡ true
  unfolding any
  any_of [] d i h e = clash refl (absurd (not-suc-le-zero h))
  any_of (x ∷ xs) d zero h e = rw e
  any_of (x ∷ xs) d (suc i) h e = or_right (f x) (any f xs) (any_of xs d i (le_of_suc-le-suc h) e)
