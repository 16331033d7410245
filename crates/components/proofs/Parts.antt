-- Laws of the classes as the code holds them. Assumes nothing.
use mathlib.Core.Path.{◌≡◌, refl, sym, ap, ◌∙◌, subst}
use mathlib.Core.Bool.{Bool, true, false, cond}
use mathlib.Core.List.{List, [], ◌∷◌, ◌++◌}
use Prim.Native.Nat.{ℕ, zero, suc, ◌+◌, ◌≤◌, ◌<◌}
use native.Mathlib.Nat.{not-suc-le-zero, lt_irrefl}
use native.Mathlib.Numerals.{add-one}
use native.Mathlib.Omega.{arith}
use lib.Dec.{eqb}
use lib.ListN.{length, get_or, replicate, length-append, length-replicate, get_or-replicate, get_or-append}
use lib.Seq.{get_or-append_seam}
use borrow.Author.Tests.{eq-eqb, ne_eqb, eqb-true}
use Rattle.lists.specs.Lists.{any, memb, turned}
use Rattle.lists.specs.Inner.{Below}
use Rattle.lists.proofs.Cases.{on, on_same, clash}
use Rattle.lists.proofs.Memb.{below-snoc, below-memb, memb-getD}
use Rattle.lists.proofs.Count.{bit-one}
use Rattle.graph.specs.Bfs.{bfs}
use Rattle.graph.specs.Held.{Marks}
use Rattle.lists.proofs.Any.{any_at, any_of}
use Rattle.components.specs.Classes.{reached, roots_of, roots_from, rooted}
use Rattle.components.specs.Parts.{flagged, in_class, Joined, Tried, Parted, Parting, Partition}
use Rattle.components.proofs.Roots.{Equivalence, rooted-old, rooted-new, roots-more, roots-end, roots-cover}

-- ---- a root is tried: marks are what is in its class

pub tried-old : {P : ℕ → ℕ → Bool} {n r : ℕ} {ids : List ℕ} {c : ℕ} → length ids ≡ 256 → (get_or ids r 0 ≡ 0 → ⊥) → Tried P n r ids c ids c
tried-old e f = record { wide = e; old = λ _. ((λ v l. refl), refl); new = λ z. absurd (f z) }

pub tried-new : {P : ℕ → ℕ → Bool} {n r : ℕ} {ids : List ℕ} {c : ℕ} (marks : List ℕ) → ((v : ℕ) → v < n → flagged marks v ≡ P r v) → get_or ids r 0 ≡ 0
    → {ids' : List ℕ} → Joined (flagged marks) n (c + 1) ids ids' → Tried P n r ids c ids' (c + 1)
tried-new {P} {n} {r} {ids} {c} marks h z {ids'} w = record {
  wide = w.wide;
  old = λ f. absurd (f z);
  new = λ _. ((λ v l. w.is v l ∙ rw (h v l, add-one c)), add-one c);
}

-- the marks of a search
pub flags-reached : (E : ℕ → ℕ → Bool) (n r : ℕ) (marks : List ℕ) → Marks n marks (bfs E n r) → (v : ℕ) → v < n → flagged marks v ≡ reached E n r v
flags-reached E n r marks h v l = ap (λ (k : ℕ). eqb k 1) (h v l) ∙ bit-one (reached E n r v)

-- ---- the classes of roots

-- no root: no class
parted-none : (P : ℕ → ℕ → Bool) (n : ℕ) → n ≤ 256 → Parted P n [] (replicate 256 0) 0
parted-none P n b = record {
  wide = length-replicate {A = ℕ} 256 0;
  number = refl;
  below = tt;
  small = λ v l. omega (arith, get_or-replicate {A = ℕ} 256 v 0 0 (omega arith));
  is = λ k v l. absurd (not-suc-le-zero l);
}

module _ {P : ℕ → ℕ → Bool} {n : ℕ} {roots ids : List ℕ} {c : ℕ} (h : Parted P n roots ids c) where
  root_below : (k : ℕ) → k < length roots → get_or roots k 0 < n
  root_below k l = below-memb n roots h.below (get_or roots k 0) (memb-getD roots k l)

  -- in no class: joined with no root
  pub parted-out : (v : ℕ) → v < n → get_or ids v 0 ≡ 0 → any (turned P v) roots ≡ false
  parted-out v l z =
      on (any (turned P v) roots)
      (λ e.
      let r = any_at (turned P v) roots 0 e in
      let s : get_or ids v 0 ≡ suc r.0 = eqb-true (get_or ids v 0) (suc r.0) (h.is r.0 v r.1 l ∙ r.2) in
      absurd (lt_irrefl 0 (omega (arith, s, z))))
      (λ e. e)

  -- in a class: joined with its root
  pub parted-in : (v : ℕ) → v < n → (get_or ids v 0 ≡ 0 → ⊥) → any (turned P v) roots ≡ true
  parted-in v l f = at (get_or ids v 0) refl
    where
      at : (i : ℕ) → get_or ids v 0 ≡ i → any (turned P v) roots ≡ true
      at zero e = absurd (f e)
      at (suc k) e =
          let s : k < length roots = omega (arith, h.small v l, h.number) in
          any_of (turned P v) roots 0 k s (sym (h.is k v s l) ∙ eq-eqb (get_or ids v 0) (suc k) e)

  -- a new class: none of it was in another
  module _ (q : Equivalence P n) {r : ℕ} (lr : r < n) (z : get_or ids r 0 ≡ 0) (ids' : List ℕ) (w : length ids' ≡ 256) (e : (v : ℕ) → v < n → get_or ids' v 0 ≡ cond (P r v) (suc c) (get_or ids v 0)) where
    free : (k v : ℕ) → k < length roots → v < n → P r v ≡ true → P (get_or roots k 0) v ≡ false
    free k v lk lv p =
        on (P (get_or roots k 0) v)
        (λ t. clash (any_of (turned P r) roots 0 k lk (q.meet (get_or roots k 0) r v (root_below k lk) lr lv t p)) (parted-out r lr z))
        (λ t. t)

    taken : (v : ℕ) → v < n → P r v ≡ true → get_or ids' v 0 ≡ suc c
    taken v l p = e v l ∙ rw p

    kept : (v : ℕ) → v < n → P r v ≡ false → get_or ids' v 0 ≡ get_or ids v 0
    kept v l p = e v l ∙ rw p

    is-old : (k v : ℕ) → k < length roots → v < n → in_class ids' (suc k) v ≡ P (get_or (roots ++ (r ∷ [])) k 0) v
    is-old k v lk lv =
        rw (get_or-append roots (r ∷ []) 0 k lk)
        (on (P r v)
        (λ p. ne_eqb (get_or ids' v 0) (suc k) (λ s. lt_irrefl k (omega (arith, taken v lv p, h.number))) ∙ sym (free k v lk lv p))
        (λ p. ap (λ (i : ℕ). eqb i (suc k)) (kept v lv p) ∙ h.is k v lk lv))

    is-new : (v : ℕ) → v < n → in_class ids' (suc (length roots)) v ≡ P (get_or (roots ++ (r ∷ [])) (length roots) 0) v
    is-new v lv =
        rw (get_or-append_seam roots r [] 0)
        (on (P r v)
        (λ p. eq-eqb (get_or ids' v 0) (suc (length roots)) (taken v lv p ∙ ap suc h.number) ∙ sym p)
        (λ p. ne_eqb (get_or ids' v 0) (suc (length roots)) (λ s. lt_irrefl c (omega (arith, kept v lv p, h.small v lv, h.number))) ∙ sym p))

    parted-new : Parted P n (roots ++ (r ∷ [])) ids' (suc c)
    parted-new = record {
      wide = w;
      number = omega (arith, h.number, length-append roots (r ∷ []));
      below = below-snoc n roots r h.below lr;
      small = λ v l. on (P r v) (λ p. omega (arith, taken v l p)) (λ p. omega (arith, kept v l p, h.small v l));
      is = λ k v lk lv. on_same k (length roots)
          (λ s. subst (λ (i : ℕ). in_class ids' (suc i) v ≡ P (get_or (roots ++ (r ∷ [])) i 0) v) (sym s) (is-new v lv))
          (λ s. is-old k v (omega (arith, length-append roots (r ∷ []))) lv);
    }

  parted-same : (ids' : List ℕ) → length ids' ≡ 256 → ((v : ℕ) → v < n → get_or ids' v 0 ≡ get_or ids v 0) → Parted P n roots ids' c
  parted-same ids' w e = record {
    wide = w;
    number = h.number;
    below = h.below;
    small = λ v l. omega (arith, e v l, h.small v l);
    is = λ k v lk lv. ap (λ (i : ℕ). eqb i (suc k)) (e v lv) ∙ h.is k v lk lv;
  }

-- ---- while an order is tried

pub parting-first : (P : ℕ → ℕ → Bool) (n : ℕ) (order : List ℕ) → n ≤ 256 → length order ≤ n → Parting P n (roots_of P order) order (replicate 256 0) 0
parting-first P n order b l = record { roots = []; parted = parted-none P n b; left = refl; few = omega arith }

module _ {P : ℕ → ℕ → Bool} {n : ℕ} {whole ids : List ℕ} {c : ℕ} where
  pub parting-room : {rest : List ℕ} {r : ℕ} → Parting P n whole (r ∷ rest) ids c → n ≤ 256 → c < 256
  parting-room h b = omega (arith, h.few)

  pub parting-more : Equivalence P n → {rest : List ℕ} {r : ℕ} → Parting P n whole (r ∷ rest) ids c → r < n → {ids' : List ℕ} {c' : ℕ} → Tried P n r ids c ids' c' → Parting P n whole rest ids' c'
  parting-more q {rest} {r} h lr {ids'} {c'} g =
      on_same (get_or ids r 0) 0
      (λ z.
      let w = g.new z in
      let e : rooted P h.roots r ≡ h.roots ++ (r ∷ []) = rooted-new P h.roots r (parted-out h.parted r lr z) in
      record {
        roots = h.roots ++ (r ∷ []);
        parted = subst (λ (i : ℕ). Parted P n (h.roots ++ (r ∷ [])) ids' i) (sym w.1) (parted-new h.parted q lr z ids' g.wide w.0);
        left = ap (λ (l : List ℕ). roots_from P l rest) (sym e) ∙ sym (roots-more P h.roots r rest) ∙ h.left;
        few = omega (arith, h.few, w.1);
      })
      (λ f.
      let w = g.old f in
      let e : rooted P h.roots r ≡ h.roots = rooted-old P h.roots r (parted-in h.parted r lr f) in
      record {
        roots = h.roots;
        parted = subst (λ (i : ℕ). Parted P n h.roots ids' i) (sym w.1) (parted-same h.parted ids' g.wide w.0);
        left = ap (λ (l : List ℕ). roots_from P l rest) (sym e) ∙ sym (roots-more P h.roots r rest) ∙ h.left;
        few = omega (arith, h.few, w.1);
      })

-- the whole order is tried, and every number below n is in it
pub parting-end : {P : ℕ → ℕ → Bool} {n : ℕ} {order ids : List ℕ} {c : ℕ} → Equivalence P n → Below n order → ((v : ℕ) → v < n → memb v order ≡ true)
    → Parting P n (roots_of P order) [] ids c → Partition P n order ids c
parting-end {P} {n} {order} {ids} {c} q b all h =
    let p : Parted P n (roots_of P order) ids c = subst (λ (l : List ℕ). Parted P n l ids c) (sym (roots-end P h.roots) ∙ h.left) h.parted in
    record {
      parted = p;
      filled = λ v l. (
        on_same (get_or ids v 0) 0 (λ z. clash (roots-cover P n q.alike order b [] v (all v l)) (parted-out p v l z)) (λ f. omega arith),
        p.small v l,
      );
    }
