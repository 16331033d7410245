-- The order of the roots: the latest finished first. Assumes nothing.
use mathlib.Core.Path.{◌≡◌, refl, sym, ap, ◌∙◌, subst}
use mathlib.Core.Bool.{Bool, true, false, ◌||◌}
use mathlib.Core.List.{List, [], ◌∷◌, reverse, reverse-cons, reverse-append, reverse_aux}
use Prim.Native.Nat.{ℕ, suc, ◌-◌, ◌≤◌, ◌<◌}
use native.Mathlib.Nat.{not-suc-le-zero}
use native.Mathlib.Omega.{arith}
use lib.Dec.{eqb}
use lib.ListN.{length, get_or, take, replicate, length-reverse, get_or-append}
use lib.Seq.{take-suc, get_or-append_seam, get_or-take, length-take-le}
use Rattle.lists.specs.Lists.{memb, turned}
use Rattle.lists.specs.Inner.{Below}
use Rattle.lists.proofs.Count.{pigeon}
use Rattle.lists.proofs.Memb.{memb-getD, below-memb}
use Rattle.lists.proofs.Cases.{on_same, clash}
use Rattle.lists.proofs.Any.{any_at, any_of}
use Rattle.depth.specs.Finish.{finished}
use Rattle.depth.specs.Swept.{Finishes}
use Rattle.depth.proofs.Finish.{finished-once, finished-below, finished-all}
use Rattle.components.specs.Classes.{roots_of}
use Rattle.components.specs.Parts.{Tried, Parting, Partition}
use Rattle.components.proofs.Parts.{parted-out, parted-in, parting-first, parting-room, parting-more, parting-end}
use Rattle.strong.specs.Strong.{mutually_reached, latest_first}
use Rattle.strong.specs.State.{Unparted}
use Rattle.strong.proofs.Shared.{shared-parts}

-- ---- a list turned round

reverse-last : (o : List ℕ) (k : ℕ) → 0 < k → k ≤ length o → reverse (take k o) ≡ get_or o (k - 1) 0 ∷ reverse (take (k - 1) o)
reverse-last o k l b =
    let e : k ≡ suc (k - 1) = omega arith in
    ap (λ (i : ℕ). reverse (take i o)) e ∙ ap reverse (take-suc o (k - 1) 0 (omega arith)) ∙ reverse-append (take (k - 1) o) (get_or o (k - 1) 0 ∷ [])

reverse-at : (o : List ℕ) (i : ℕ) → i < length o → get_or (reverse o) i 0 ≡ get_or o (length o - suc i) 0
reverse-at [] i l = absurd (not-suc-le-zero l)
reverse-at (x ∷ o) i l =
    ap (λ (r : List ℕ). get_or r i 0) (reverse-cons x o)
    ∙ on_same i (length o)
    (λ s.
    let e : suc (length o) - suc i ≡ 0 = omega arith in
    rw (e, s, ← length-reverse o) (get_or-append_seam (reverse o) x [] 0))
    (λ ne.
    let e : suc (length o) - suc i ≡ suc (length o - suc i) = omega arith in
    rw e (get_or-append (reverse o) (x ∷ []) 0 i (rw length-reverse (omega arith)) ∙ reverse-at o i (omega arith)))

below-reverse : (n : ℕ) (a : List ℕ) → Below n a → Below n (reverse a)
below-reverse n a b = go a [] b tt
  where
    go : (x y : List ℕ) → Below n x → Below n y → Below n (reverse_aux x y)
    go [] y p q = q
    go (i ∷ x) y p q = go x (i ∷ y) p.1 (p.0, q)

swap : (a b c : Bool) → ((a || b) || c) ≡ true → (b || (a || c)) ≡ true
swap true true c e = refl
swap true false c e = refl
swap false b c e = e

memb-reverse : (v : ℕ) (a : List ℕ) → memb v a ≡ true → memb v (reverse a) ≡ true
memb-reverse v a e = go a [] (rw e refl)
  where
    go : (x y : List ℕ) → (memb v x || memb v y) ≡ true → memb v (reverse_aux x y) ≡ true
    go [] y p = p
    go (i ∷ x) y p = go x (i ∷ y) (swap (eqb v i) (memb v x) (memb v y) p)

-- ---- while roots are tried, what is mutually reached with a number in no class is in no class

pub parting-free : (E : ℕ → ℕ → Bool) {n : ℕ} {whole rest ids : List ℕ} {c : ℕ} → Parting (mutually_reached E n) n whole rest ids c → Unparted E n ids
parting-free E {n} {whole} {rest} {ids} h x y lx ly e z =
    on_same (get_or ids y 0) 0 (λ s. s)
    (λ f.
    let g = h.parted in
    let k = any_at (turned (mutually_reached E n) y) h.roots 0 (parted-in g y ly f) in
    let r : ℕ = get_or h.roots k.0 0 in
    let lr : r < n = below-memb n h.roots g.below r (memb-getD h.roots k.0 k.1) in
    clash (any_of (turned (mutually_reached E n) x) h.roots 0 k.0 k.1 ((shared-parts E n).meet r x y lr lx ly k.2 e)) (parted-out g x lx z))

-- ---- the order

module _ (E : ℕ → ℕ → Bool) (n : ℕ) where
  pub latest-length : length (latest_first E n) ≡ length (finished E n)
  unfolding latest_first
  latest-length = length-reverse (finished E n)

  -- the same, from the end
  pub latest-at : (i : ℕ) → i < length (finished E n) → get_or (latest_first E n) i 0 ≡ get_or (finished E n) (length (finished E n) - suc i) 0
  unfolding latest_first
  latest-at i l = reverse-at (finished E n) i l

module _ (E : ℕ → ℕ → Bool) (n : ℕ) (small : n ≤ 256) where
  pub latest-below : Below n (latest_first E n)
  unfolding latest_first
  latest-below = below-reverse n (finished E n) (finished-below E n small)

  pub latest-all : (v : ℕ) → v < n → memb v (latest_first E n) ≡ true
  unfolding latest_first
  latest-all v l = memb-reverse v (finished E n) (finished-all E n small v l)

  latest-short : length (latest_first E n) ≤ n
  unfolding latest_first
  latest-short = omega (arith, length-reverse (finished E n), pigeon (finished E n) n (finished-once E n small) (finished-below E n small))

  -- ---- the code's loop: t places of o have the finish order, and the roots of the first k are to be tried

  module _ {t : ℕ} {o : List ℕ} (f : Finishes E n t o) where
    pub latest-first : Parting (mutually_reached E n) n (roots_of (mutually_reached E n) (latest_first E n)) (reverse (take t o)) (replicate 256 0) 0
    unfolding latest_first
    latest-first =
        subst (λ (l : List ℕ). Parting (mutually_reached E n) n (roots_of (mutually_reached E n) (reverse (finished E n))) (reverse l) (replicate 256 0) 0) (sym f.is)
        (parting-first (mutually_reached E n) n (reverse (finished E n)) small latest-short)

    pub latest-root : (k : ℕ) → k < t → get_or o k 0 < n
    latest-root k lk =
        let e : take t o ≡ finished E n = f.is in
        subst (λ (x : ℕ). x < n) (get_or-take t o k 0 lk)
        (below-memb n (take t o) (subst (Below n) (sym e) (finished-below E n small)) (get_or (take t o) k 0) (memb-getD (take t o) k (omega (arith, length-take-le t o (omega (arith, f.long, f.short))))))

    module _ {ids : List ℕ} {c k : ℕ} (h : Parting (mutually_reached E n) n (roots_of (mutually_reached E n) (latest_first E n)) (reverse (take k o)) ids c) where
      at-root : 0 < k → k ≤ t → Parting (mutually_reached E n) n (roots_of (mutually_reached E n) (latest_first E n)) (get_or o (k - 1) 0 ∷ reverse (take (k - 1) o)) ids c
      at-root l b = subst (λ (r : List ℕ). Parting (mutually_reached E n) n (roots_of (mutually_reached E n) (latest_first E n)) r ids c) (reverse-last o k l (omega (arith, f.long, f.short))) h

      pub latest-room : 0 < k → k ≤ t → c < 256
      latest-room l b = parting-room (at-root l b) small

      pub latest-more : 0 < k → k ≤ t → {ids' : List ℕ} {c' : ℕ} → Tried (mutually_reached E n) n (get_or o (k - 1) 0) ids c ids' c'
          → Parting (mutually_reached E n) n (roots_of (mutually_reached E n) (latest_first E n)) (reverse (take (k - 1) o)) ids' c'
      latest-more l b g = parting-more (shared-parts E n) (at-root l b) (latest-root (k - 1) (omega arith)) g

      pub latest-end : k ≤ 0 → Partition (mutually_reached E n) n (latest_first E n) ids c
      latest-end l =
          let z : k ≡ 0 = omega arith in
          parting-end (shared-parts E n) latest-below latest-all
          (subst (λ (i : ℕ). Parting (mutually_reached E n) n (roots_of (mutually_reached E n) (latest_first E n)) (reverse (take i o)) ids c) z h)
