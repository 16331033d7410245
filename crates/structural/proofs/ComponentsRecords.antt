-- Components of the records are, by their numbers, components of the numbers. Assumes nothing.
use mathlib.Core.Path.{◌≡◌, sym, ap, ◌∙◌, subst}
use mathlib.Core.Bool.{Bool, true}
use mathlib.Core.List.{List, [], map}
use Prim.Native.Nat.{ℕ, ◌<◌}
use native.Mathlib.Omega.{arith}
use lib.ListN
use lib.ListN.{length, get_or}
use borrow.Author.Tests.{lt-ltb, ltb-true}
use Rattle.lists.specs.Lists.{memb, is_below, Ascending}
use Rattle.lists.proofs.Maps.{map-length}
use Rattle.lists.proofs.Memb.{memb-getD}
use Rattle.traversal.proofs.Mapped.{memb-map, map-memb}
use Rattle.components.specs.Components.{First, Components}
use Rattle.components.proofs.Members.{get_d_map}

-- f i is the number of record i: numbers rise, no two records have one number, and what is live are the numbers
module _ (f : ℕ → ℕ) {n : ℕ} (rises : (i j : ℕ) → i < j → j < n → f i < f j) (once : (i j : ℕ) → i < n → j < n → f i ≡ f j → i ≡ j)
    {live : ℕ → Bool} (are : (i : ℕ) → i < n → live (f i) ≡ true) (of : (x : ℕ) → live x ≡ true → (i : ℕ) × (i < n) × (f i ≡ x))
    (R Before : ℕ → ℕ → Type 0) {cs : List (List ℕ)} (h : Components (is_below n) (λ i j. R (f i) (f j)) (λ i j. Before (f i) (f j)) cs) where
  module _ (k : ℕ) where
    at : get_or (map (map f) cs) k [] ≡ map f (get_or cs k [])
    at = ListN.get_or-map (map f) cs k []

    within : k < length (map (map f) cs) → k < length cs
    within l = rw map-length at l

    below : k < length cs → (i : ℕ) → memb i (get_or cs k []) ≡ true → i < n
    below l i e = ltb-true i n (h.alive k i l e)

    -- a member is the number of a member
    of-member : (x : ℕ) → k < length cs → memb x (get_or (map (map f) cs) k []) ≡ true → (i : ℕ) × (i < n) × (memb i (get_or cs k []) ≡ true) × (f i ≡ x)
    of-member x l e =
        let m = map-memb f x (get_or cs k []) (rw at at e) in
        (m.0, below l m.0 m.1, m.1, m.2)

    is_member : (i : ℕ) → memb i (get_or cs k []) ≡ true → memb (f i) (get_or (map (map f) cs) k []) ≡ true
    is_member i e = rw at (memb-map f i (get_or cs k []) e)

    ascends : k < length cs → Ascending (map f (get_or cs k []))
    ascends l i j b m =
        let c : List ℕ = get_or cs k [] in
        let lj : j < length c = rw map-length at m in
        rw (get_d_map f c i 0 0 (omega arith), get_d_map f c j 0 0 lj) (rises (get_or c i 0) (get_or c j 0) (h.sorted k l i j b lj) (below l (get_or c j 0) (memb-getD c j lj)))

    first-number : k < length cs → (i : ℕ) → First (λ i j. Before (f i) (f j)) (get_or cs k []) i → First Before (get_or (map (map f) cs) k []) (f i)
    first-number l i g = record {
      member = is_member i g.member;
      before = λ y e ne.
          let j = of-member y l e in
          subst (Before (f i)) j.3 (g.before j.0 j.2 (λ s. ne (ap f s ∙ j.3)));
    }

  pub components-numbers : Components live R Before (map (map f) cs)
  components-numbers = record {
    some = λ x l.
        let i = of x l in
        let k = h.some i.0 (lt-ltb i.0 n i.1) in
        (k.0, rw map-length k.1, subst (λ (z : ℕ). memb z (get_or (map (map f) cs) k.0 []) ≡ true) i.2 (is_member k.0 i.0 k.2));
    only = λ j k x lj lk mj mk.
        let i = of-member j x (within j lj) mj in
        let g = of-member k x (within k lk) mk in
        let s : g.0 ≡ i.0 = once g.0 i.0 g.1 i.1 (g.3 ∙ sym i.3) in
        h.only j k i.0 (within j lj) (within k lk) i.2 (subst (λ (z : ℕ). memb z (get_or cs k []) ≡ true) s g.2);
    alive = λ k x l m.
        let i = of-member k x (within k l) m in
        subst (λ (z : ℕ). live z ≡ true) i.3 (are i.0 i.1);
    related = λ k x y l mx my.
        let i = of-member k x (within k l) mx in
        let j = of-member k y (within k l) my in
        subst (λ (z : ℕ). R z y) i.3 (subst (λ (z : ℕ). R (f i.0) z) j.3 (h.related k i.0 j.0 (within k l) i.2 j.2));
    whole = λ k x y l mx ly r.
        let i = of-member k x (within k l) mx in
        let j = of y ly in
        let s : R (f i.0) (f j.0) = subst (λ (z : ℕ). R z (f j.0)) (sym i.3) (subst (λ (z : ℕ). R x z) (sym j.2) r) in
        subst (λ (z : ℕ). memb z (get_or (map (map f) cs) k []) ≡ true) j.2
        (is_member k j.0 (h.whole k i.0 j.0 (within k l) i.2 (lt-ltb j.0 n j.1) s));
    inhabited = λ k l. rw (at k, map-length) (h.inhabited k (within k l));
    sorted = λ k l. subst Ascending (sym (at k)) (ascends k (within k l));
    ordered = λ j k l lk.
        let a = h.ordered j k l (within k lk) in
        record {
          one = f a.one;
          other = f a.other;
          one-first = first-number j (omega (arith, within k lk)) a.one a.one-first;
          other-first = first-number k (within k lk) a.other a.other-first;
          before = a.before;
        };
  }
