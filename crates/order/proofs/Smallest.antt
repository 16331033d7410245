-- There is one smallest order at most, and none beside a closed walk. Assumes nothing.
use mathlib.Core.Path.{◌≡◌, refl, subst, sym, ◌∙◌}
use mathlib.Core.Bool.{Bool, true}
use mathlib.Core.Logic.{⊎_elim}
use mathlib.Core.List.{List, [], ◌∷◌}
use Prim.Native.Nat.{ℕ, ◌≤◌, ◌<◌}
use native.Mathlib.Nat.{lt_irrefl, lt_trans}
use native.Mathlib.Omega.{arith}
use lib.ListN.{length, get_or}
use Rattle.lists.proofs.Memb.{memb-at}
use Rattle.walks.proofs.Walks.{reach-keeps}
use Rattle.walks.specs.Walks.{Closed}
use Rattle.order.specs.Sort.{Forward, LexLe, Smallest}

pub lex-antisym : (l k : List ℕ) → LexLe l k → LexLe k l → l ≡ k
lex-antisym [] [] a b = refl
lex-antisym [] (y ∷ k) a b = absurd b
lex-antisym (x ∷ l) [] a b = absurd a
lex-antisym (x ∷ l) (y ∷ k) a b =
    ⊎_elim
    (λ (h : x < y). ⊎_elim (λ (g : y < x). absurd (lt_irrefl x (lt_trans h g))) (λ (g : (y ≡ x) × LexLe k l). absurd (lt_irrefl x (omega (arith, g.0)))) b)
    (λ (h : (x ≡ y) × LexLe l k). ⊎_elim
    (λ (g : y < x). absurd (lt_irrefl x (omega (arith, h.0))))
    (λ (g : (y ≡ x) × LexLe k l). let t : l ≡ k = lex-antisym l k h.1 g.1 in rw (h.0, t))
    b)
    a

module _ {live : ℕ → Bool} {R : ℕ → ℕ → Type 0} where
  -- the same of a relation that holds of the same
  module _ {S : ℕ → ℕ → Type 0} (to : (x y : ℕ) → R x y → S x y) (from : (x y : ℕ) → S x y → R x y) where
    forward-as : {l : List ℕ} → Forward live R l → Forward live S l
    forward-as {l} o = record { once = o.once; same = o.same; forward = λ i j hi hj e. o.forward i j hi hj (from (get_or l i 0) (get_or l j 0) e) }

    forward-of : {l : List ℕ} → Forward live S l → Forward live R l
    forward-of {l} o = record { once = o.once; same = o.same; forward = λ i j hi hj e. o.forward i j hi hj (to (get_or l i 0) (get_or l j 0) e) }

    pub smallest-as : {l : List ℕ} → Smallest live R l → Smallest live S l
    smallest-as {l} s = record { order = forward-as s.order; least = λ k o. s.least k (forward-of o) }

  -- there is one sort at most
  pub smallest-unique : {l k : List ℕ} → Smallest live R l → Smallest live R k → l ≡ k
  smallest-unique {l} {k} a b = lex-antisym l k (a.least k b.order) (b.least l a.order)

  module _ (among : (x y : ℕ) → R x y → (live x ≡ true) × (live y ≡ true)) {l : List ℕ} (o : Forward live R l) where
    -- the place of a live one
    place : (x : ℕ) → live x ≡ true → (i : ℕ) × (i < length l) × (get_or l i 0 ≡ x)
    place x h = memb-at x l (o.same x ∙ h)

    -- a walk goes forward, so no walk is closed
    pub forward-open : Closed R → ⊥
    forward-open c =
        let goes : (u v i j : ℕ) → i < length l → j < length l → get_or l i 0 ≡ u → get_or l j 0 ≡ v → R u v → i < j =
        λ u v i j hi hj ei ej e. o.forward i j hi hj (subst (λ (z : ℕ). R z (get_or l j 0)) (sym ei) (subst (λ (z : ℕ). R u z) (sym ej) e)) in
        let p = place c.from (among c.last c.from c.back).1 in
        let P : ℕ → Type 0 = λ y. (j : ℕ) × (j < length l) × (get_or l j 0 ≡ y) × (p.0 ≤ j) in
        let at : P c.last =
        reach-keeps P (p.0, p.1, p.2, omega arith)
        (λ u v h e.
        let k = place v (among u v e).1 in
        let f : h.0 < k.0 = goes u v h.0 k.0 h.1 k.1 h.2 k.2 e in
        (k.0, k.1, k.2, omega (arith, f, h.3)))
        c.walk in
        let f : at.0 < p.0 = goes c.last c.from at.0 p.0 at.1 p.1 at.2 p.2 c.back in
        lt_irrefl p.0 (omega (arith, f, at.3))
