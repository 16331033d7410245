-- What is in a mapped list. Assumes nothing.
use mathlib.Core.Path.{◌≡◌, refl, sym, ap, ◌∙◌}
use mathlib.Core.Bool.{Bool, true, ◌||◌}
use mathlib.Core.Logic.{⊎_elim}
use mathlib.Core.List.{List, [], ◌∷◌, map}
use Prim.Native.Nat.{ℕ}
use lib.Dec.{eqb}
use borrow.Author.Tests.{eq-eqb, eqb-true}
use Rattle.lists.specs.Lists.{memb, Distinct}
use Rattle.lists.proofs.Cases.{clash, or-true, or_right, test-ext}
use Rattle.lists.proofs.Memb.{memb-self}

module _ (f : ℕ → ℕ) where
  pub memb-map : (x : ℕ) (l : List ℕ) → memb x l ≡ true → memb (f x) (map f l) ≡ true
  memb-map x [] e = clash e refl
  memb-map x (y ∷ l) e =
      ⊎_elim
      (λ p. ap (λ (b : Bool). b || memb (f x) (map f l)) (eq-eqb (f x) (f y) (ap f (eqb-true x y p))))
      (λ p. or_right (eqb (f x) (f y)) (memb (f x) (map f l)) (memb-map x l p))
      (or-true (eqb x y) (memb x l) e)

  pub map-memb : (z : ℕ) (l : List ℕ) → memb z (map f l) ≡ true → (x : ℕ) × (memb x l ≡ true) × (f x ≡ z)
  map-memb z [] e = clash e refl
  map-memb z (y ∷ l) e =
      ⊎_elim
      (λ p. (y, memb-self y l, sym (eqb-true z (f y) p)))
      (λ p. let r = map-memb z l p in (r.0, or_right (eqb r.0 y) (memb r.0 l) r.1, r.2))
      (or-true (eqb z (f y)) (memb z (map f l)) e)

  -- where no other of the list has the same image
  pub memb-image : (x : ℕ) (l : List ℕ) → ((y : ℕ) → memb y l ≡ true → f y ≡ f x → y ≡ x) → memb (f x) (map f l) ≡ memb x l
  memb-image x l one =
      test-ext _ _
      (λ e. let r = map-memb (f x) l e in ap (λ (y : ℕ). memb y l) (sym (one r.0 r.1 r.2)) ∙ r.1)
      (λ e. memb-map x l e)

  -- no repeat before, none after
  pub distinct-map : (l : List ℕ) → ((x y : ℕ) → memb x l ≡ true → memb y l ≡ true → f x ≡ f y → x ≡ y) → Distinct l → Distinct (map f l)
  distinct-map [] one d = tt
  distinct-map (x ∷ l) one d = (
    memb-image x l (λ y p e. one y x (or_right (eqb y x) (memb y l) p) (memb-self x l) e) ∙ d.0,
    distinct-map l (λ y z p q. one y z (or_right (eqb y x) (memb y l) p) (or_right (eqb z x) (memb z l) q)) d.1,
  )
