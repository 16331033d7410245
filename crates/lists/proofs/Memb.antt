-- Laws of membership, of lists with no repeat and of lists of numbers below a bound. Assumes nothing.
use mathlib.Core.Path.{◌≡◌, refl, sym, ap, ◌∙◌, subst}
use mathlib.Core.Bool.{Bool, true, false, ◌||◌, or_assoc}
use mathlib.Core.Logic.{◌⊎◌, inl, inr, ⊎_elim}
use mathlib.Core.List.{List, [], ◌∷◌, ◌++◌}
use Prim.Native.Nat.{ℕ, zero, suc, ◌<◌}
use native.Mathlib.Nat.{le_of_suc-le-suc, not-suc-le-zero}
use native.Mathlib.Omega.{arith}
use lib.Dec.{eqb}
use lib.ListN.{length, get_or}
use borrow.Author.Tests.{eqb-true, eqb-false, eq-eqb, ne_eqb}
use Rattle.lists.specs.Lists.{any, memb, Distinct}
use Rattle.lists.specs.Inner.{Below}
use Rattle.lists.proofs.Cases.{eq-or-ne, clash, or-true, or-false, or_right, or-false-left, or-false-right}

pub any-memb : (x : ℕ) (ys : List ℕ) → any (eqb x) ys ≡ memb x ys
unfolding any
any-memb x [] = refl
any-memb x (y ∷ ys) = ap (λ (b : Bool). eqb x y || b) (any-memb x ys)

pub memb-append : (x : ℕ) (a b : List ℕ) → memb x (a ++ b) ≡ (memb x a || memb x b)
memb-append x [] b = refl
memb-append x (y ∷ a) b = ap (λ (t : Bool). eqb x y || t) (memb-append x a b) ∙ sym (or_assoc (eqb x y) (memb x a) (memb x b))

pub memb-self : (x : ℕ) (l : List ℕ) → memb x (x ∷ l) ≡ true
memb-self x l = ap (λ (t : Bool). t || memb x l) (eq-eqb x x refl)

pub memb-snoc-self : (x : ℕ) (a : List ℕ) → memb x (a ++ (x ∷ [])) ≡ true
memb-snoc-self x a = memb-append x a (x ∷ []) ∙ or_right (memb x a) (memb x (x ∷ [])) (memb-self x [])

pub memb-left : (x : ℕ) (a b : List ℕ) → memb x a ≡ true → memb x (a ++ b) ≡ true
memb-left x a b e = memb-append x a b ∙ ap (λ (t : Bool). t || memb x b) e

pub memb-snoc-other : (x y : ℕ) (a : List ℕ) → (x ≡ y → ⊥) → memb x (a ++ (y ∷ [])) ≡ memb x a
memb-snoc-other x y a ne = memb-append x a (y ∷ []) ∙ ap (λ (t : Bool). memb x a || (t || false)) (ne_eqb x y ne) ∙ or-false (memb x a)

-- what is in a ++ [y] is in a or is y
pub memb-snoc : (x y : ℕ) (a : List ℕ) → memb x (a ++ (y ∷ [])) ≡ true → (memb x a ≡ true) ⊎ (x ≡ y)
memb-snoc x y a e = ⊎_elim (λ s. inr s) (λ ne. inl (sym (memb-snoc-other x y a ne) ∙ e)) (eq-or-ne x y)

pub memb-getD : (l : List ℕ) (i : ℕ) → i < length l → memb (get_or l i 0) l ≡ true
memb-getD [] i h = absurd (not-suc-le-zero h)
memb-getD (y ∷ l) zero h = memb-self y l
memb-getD (y ∷ l) (suc i) h = or_right (eqb (get_or l i 0) y) (memb (get_or l i 0) l) (memb-getD l i (le_of_suc-le-suc h))

pub memb-at : (x : ℕ) (l : List ℕ) → memb x l ≡ true → (i : ℕ) × (i < length l) × (get_or l i 0 ≡ x)
memb-at x [] e = clash e refl
memb-at x (y ∷ l) e =
    ⊎_elim
    (λ h. (0, omega arith, sym (eqb-true x y h)))
    (λ h. let r = memb-at x l h in (suc r.0, omega (arith, r.1), r.2))
    (or-true (eqb x y) (memb x l) e)

pub below-memb : (n : ℕ) (l : List ℕ) → Below n l → (x : ℕ) → memb x l ≡ true → x < n
below-memb n [] b x e = clash e refl
below-memb n (y ∷ l) b x e =
    ⊎_elim
    (λ h. subst (λ (z : ℕ). z < n) (sym (eqb-true x y h)) b.0)
    (λ h. below-memb n l b.1 x h)
    (or-true (eqb x y) (memb x l) e)

pub below-snoc : (n : ℕ) (l : List ℕ) (y : ℕ) → Below n l → y < n → Below n (l ++ (y ∷ []))
below-snoc n [] y b h = (h, tt)
below-snoc n (x ∷ l) y b h = (b.0, below-snoc n l y b.1 h)

pub distinct_snoc : (l : List ℕ) (y : ℕ) → Distinct l → memb y l ≡ false → Distinct (l ++ (y ∷ []))
distinct_snoc [] y d h = (refl, tt)
distinct_snoc (x ∷ l) y d h = (
  memb-snoc-other x y l (λ e. eqb-false y x (or-false-left (eqb y x) (memb y l) h) (sym e)) ∙ d.0,
  distinct_snoc l y d.1 (or-false-right (eqb y x) (memb y l) h),
)
