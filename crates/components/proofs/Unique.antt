-- There is one listing of the components at most, where no two numbers come each before the other. Assumes nothing.
use mathlib.Core.Path.{◌≡◌, sym, ap, ◌∙◌, subst}
use mathlib.Core.Bool.{Bool, true}
use mathlib.Core.List.{List, []}
use Prim.Native.Nat.{ℕ, zero, suc, ◌≤◌, ◌<◌}
use native.Mathlib.Nat.{lt_irrefl}
use native.Mathlib.Omega.{arith}
use lib.ListN.{length, get_or}
use lib.Seq.{ext_get_or}
use Rattle.lists.specs.Lists.{memb}
use Rattle.lists.proofs.Cases.{on_same, on_below}
use Rattle.lists.proofs.Memb.{memb-getD}
use Rattle.lists.proofs.Ascend.{ascending-same}
use Rattle.components.specs.Components.{First, Precedes, Components}

-- places that rise are no lower than their own
rising : (m : ℕ) (at : (k : ℕ) → k < m → ℕ) → ((j k : ℕ) (lj : j < m) (lk : k < m) → j < k → at j lj < at k lk) → (k : ℕ) (l : k < m) → k ≤ at k l
rising m at h zero l = omega arith
rising m at h (suc k) l = let p : k < m = omega arith in omega (arith, rising m at h k p, h k (suc k) p l (omega arith))

module _ {Before : ℕ → ℕ → Type 0} (one_way : (x y : ℕ) → Before x y → Before y x → ⊥) where
  first-once : {c : List ℕ} {x y : ℕ} → First Before c x → First Before c y → x ≡ y
  first-once {c} {x} {y} a b =
      on_same x y (λ e. e) (λ ne. absurd (one_way x y (a.before y b.member ne) (b.before x a.member (λ e. ne (sym e)))))

  precedes-one-way : {c d : List ℕ} → Precedes Before c d → Precedes Before d c → ⊥
  precedes-one-way a b =
      one_way a.one a.other a.before
      (subst (λ (z : ℕ). Before a.other z) (first-once b.other-first a.one-first)
      (subst (λ (z : ℕ). Before z b.other) (first-once b.one-first a.other-first) b.before))

  head-member : {live : ℕ → Bool} {R : ℕ → ℕ → Type 0} {cs : List (List ℕ)} → Components live R Before cs → (k : ℕ) → k < length cs → memb (get_or (get_or cs k []) 0 0) (get_or cs k []) ≡ true
  head-member {cs = cs} a k l = memb-getD (get_or cs k []) 0 (a.inhabited k l)

  module _ {live : ℕ → Bool} {R : ℕ → ℕ → Type 0} {cs ds : List (List ℕ)} (a : Components live R Before cs) (b : Components live R Before ds) where
    -- a component of the one is a component of the other
    found : (k : ℕ) → k < length cs → (h : ℕ) × (h < length ds) × (get_or cs k [] ≡ get_or ds h [])
    found k l =
        let x : ℕ = get_or (get_or cs k []) 0 0 in
        let m : memb x (get_or cs k []) ≡ true = head-member a k l in
        let s = b.some x (a.alive k x l m) in (
          s.0,
          s.1,
          ascending-same (get_or cs k []) (get_or ds s.0 []) (a.sorted k l) (b.sorted s.0 s.1)
              (λ y e. b.whole s.0 x y s.1 s.2 (a.alive k y l e) (a.related k x y l m e))
              (λ y e. a.whole k x y l m (b.alive s.0 y s.1 e) (b.related s.0 x y s.1 s.2 e)),
        )

    -- where it stands there
    place : (k : ℕ) → k < length cs → ℕ
    place k l = (found k l).0

    place-rises : (j k : ℕ) (lj : j < length cs) (lk : k < length cs) → j < k → place j lj < place k lk
    unfolding place
    place-rises j k lj lk l =
        let p = found j lj in
        let q = found k lk in
        on_below p.0 q.0 (λ h. h)
        (λ h. absurd (on_same p.0 q.0
        (λ s.
        let e : get_or cs j [] ≡ get_or cs k [] = p.2 ∙ ap (λ (i : ℕ). get_or ds i []) s ∙ sym q.2 in
        let u : Precedes Before (get_or cs k []) (get_or cs k []) = rw e at (a.ordered j k l lk) in
        precedes-one-way u u)
        (λ ne.
        let u : Precedes Before (get_or ds q.0 []) (get_or ds p.0 []) = b.ordered q.0 p.0 (omega arith) p.1 in
        precedes-one-way (a.ordered j k l lk) (rw (← p.2, ← q.2) at u))))

  module _ {live : ℕ → Bool} {R : ℕ → ℕ → Type 0} {cs ds : List (List ℕ)} (a : Components live R Before cs) (b : Components live R Before ds) where
    -- the two have the same component at each place
    same_place : (k : ℕ) → k < length cs → (k < length ds) × (get_or cs k [] ≡ get_or ds k [])
    unfolding place
    same_place k l =
        let p = found a b k l in
        let r = found b a p.0 p.1 in
        let x : ℕ = get_or (get_or cs k []) 0 0 in
        let m : memb x (get_or cs k []) ≡ true = head-member a k l in
        let back : r.0 ≡ k = a.only r.0 k x r.1 l (subst (λ (c : List ℕ). memb x c ≡ true) (p.2 ∙ r.2) m) m in
        let s : p.0 ≡ k = omega (arith, back, rising (length cs) (place a b) (place-rises a b) k l, rising (length ds) (place b a) (place-rises b a) p.0 p.1) in
        (omega (arith, s, p.1), p.2 ∙ ap (λ (i : ℕ). get_or ds i []) s)

  -- two listings of the components are one
  pub components-unique : {live : ℕ → Bool} {R : ℕ → ℕ → Type 0} {cs ds : List (List ℕ)} → Components live R Before cs → Components live R Before ds → cs ≡ ds
  components-unique {cs = cs} {ds = ds} a b =
      let long : length cs ≡ length ds =
      on_below (length cs) (length ds)
      (λ l. absurd (lt_irrefl (length cs) (same_place b a (length cs) l).0))
      (λ l. on_below (length ds) (length cs) (λ h. absurd (lt_irrefl (length ds) (same_place a b (length ds) h).0)) (λ h. omega arith)) in
      ext_get_or [] cs ds long (λ k l. (same_place a b k l).1)
