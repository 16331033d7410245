-- What is found is a ring, and one is found exactly where a walk is closed. Assumes nothing.
use mathlib.Core.Path.{◌≡◌, refl, sym, ap, subst}
use mathlib.Core.Bool.{Bool, true, false}
use mathlib.Core.List.{List, [], ◌∷◌}
use Prim.Native.Nat.{ℕ, zero, suc, ◌+◌, ◌-◌, ◌<◌}
use native.Mathlib.Nat.{not-suc-le-zero, lt_irrefl, le_of_suc-le-suc}
use native.Mathlib.Omega.{arith}
use lib.Dec.{ltb}
use lib.ListN.{length, get_or, take}
use lib.Seq.{length-take-le, get_or-take}
use borrow.Author.Tests.{lt-ltb, le-ltb}
use Rattle.lists.specs.Lists.{memb, Distinct}
use Rattle.lists.specs.Inner.{Below}
use Rattle.lists.proofs.Cases.{on, on_below}
use Rattle.lists.proofs.Count.{pigeon}
use Rattle.lists.proofs.Memb.{memb-getD, below-memb}
use Rattle.walks.specs.Walks.{Reach, here, step, Closed}
use Rattle.graph.specs.Reach.{Edge}
use Rattle.order.proofs.Least.{least-ext}
use Rattle.components.specs.Classes.{reached}
use Rattle.traversal.proofs.Ext.{bfs-ext}
use Rattle.rings.specs.Rings.{Ring}
use Rattle.rings.specs.Search.{before, comes_back, lowest, up_through, go_back, ring_from, ring_of}
use Rattle.rings.proofs.Passed.{first-place, through-at, distinct-take}
use Rattle.rings.proofs.Back.{before-ext, before-below, before-kept, before-steps, reached-self, reached-below, comes_back_lem, lowest-back, lowest-found}
use Rattle.rings.proofs.Going.{go_on, go-end}

-- from the first of a ring a walk leads to each: so the ring is a closed walk
pub ring-closed : {R : ℕ → ℕ → Type 0} {w : List ℕ} → Ring R w → Closed R
ring-closed {R} {w} r =
    let to : (i : ℕ) → i < length w → Reach R (get_or w 0 0) (get_or w i 0) = reach in
    record { from = get_or w 0 0; last = get_or w (length w - 1) 0; walk = to (length w - 1) (omega (arith, r.some)); back = r.back }
  where
    reach : (i : ℕ) → i < length w → Reach R (get_or w 0 0) (get_or w i 0)
    reach zero h = here
    reach (suc i) h = step (reach i (omega arith)) (r.steps i h)

module _ (E : ℕ → ℕ → Bool) (n : ℕ) where
  -- those passed, the latest first: each has a step to the next, and y to the latest
  record Trail (w : List ℕ) (y : ℕ) : Type 0 where
    once : Distinct w
    below : Below n w
    next : y < n
    chain : (i : ℕ) → suc i < length w → E (get_or w i 0) (get_or w (suc i) 0) ≡ true
    leads : 0 < length w → E y (get_or w 0 0) ≡ true

  -- y was passed: the trail up to it is a ring
  trail-ring : (w : List ℕ) (y : ℕ) → Trail w y → memb y w ≡ true → Ring (Edge E n) (up_through y w)
  trail-ring w y t m =
      let r = first-place y w m in
      let k : ℕ = r.0 in
      let v : List ℕ = take (suc k) w in
      let len : length v ≡ suc k = length-take-le (suc k) w r.1 in
      let at : (i : ℕ) → i < suc k → get_or v i 0 ≡ get_or w i 0 = λ i h. get_or-take (suc k) w i 0 h in
      let small : (i : ℕ) → i < length w → get_or w i 0 < n = λ i h. below-memb n w t.below (get_or w i 0) (memb-getD w i h) in
      let ring : Ring (Edge E n) v = record {
        some = omega arith;
        once = distinct-take w (suc k) t.once;
        steps = λ i h. rw (at i (omega arith), at (suc i) (omega arith)) (small i (omega (arith, r.1)), small (suc i) (omega (arith, r.1)), t.chain i (omega (arith, r.1)));
        back =
            let last : length v - 1 ≡ k = omega arith in
            rw (last, at k (omega arith), at 0 (omega arith), r.3) (t.next, small 0 (omega (arith, r.1)), t.leads (omega (arith, r.1)));
      } in
      subst (Ring (Edge E n)) (sym (through-at y w k r.1 r.2 r.3)) ring

  module _ (x : ℕ) (l : x < n) (c : comes_back E n x ≡ true) where
    back-ring : (f : ℕ) (w : List ℕ) (y : ℕ) → Trail w y → reached E n x y ≡ true → n < f + length w → Ring (Edge E n) (go_back (before E n (reached E n x)) f w y)
    back-ring zero w y t k b = absurd (lt_irrefl n (omega (arith, pigeon w n t.once t.below)))
    back-ring (suc f) w y t k b =
        let g : ℕ → ℕ = before E n (reached E n x) in
        on (memb y w)
        (λ e. subst (Ring (Edge E n)) (sym (go-end g f w y e)) (trail-ring w y t e))
        (λ e. subst (Ring (Edge E n)) (sym (go_on g f w y e))
        (back-ring f (y ∷ w) (g y) (trail_more w y t e (g y) (before-below E n x l c y k) (before-steps E n x l c y k)) (before-kept E n x l c y k) (omega arith)))
      where
        chained : (w : List ℕ) (y : ℕ) → Trail w y → (i : ℕ) → suc i < length (y ∷ w) → E (get_or (y ∷ w) i 0) (get_or (y ∷ w) (suc i) 0) ≡ true
        chained w y t zero h = t.leads (le_of_suc-le-suc h)
        chained w y t (suc i) h = t.chain i (le_of_suc-le-suc h)

        trail_more : (w : List ℕ) (y : ℕ) → Trail w y → memb y w ≡ false → (z : ℕ) → z < n → E z y ≡ true → Trail (y ∷ w) z
        trail_more w y t e z h s = record { once = (e, t.once); below = (t.next, t.below); next = h; chain = chained w y t; leads = λ _. s }

    pub from-ring : Ring (Edge E n) (ring_from E n x)
    from-ring = back-ring (suc n) [] x
        (record { once = tt; below = tt; next = l; chain = λ i h. absurd (not-suc-le-zero h); leads = λ h. absurd (not-suc-le-zero h) })
        (reached-self E n x l) (omega arith)

  -- what is found is a ring
  pub ring-is : 0 < length (ring_of E n) → Ring (Edge E n) (ring_of E n)
  unfolding ring_of
  ring-is h =
      on_below (lowest E n) n
      (λ l. rw (lt-ltb (lowest E n) n l) (from-ring (lowest E n) l (lowest-back E n l)))
      (λ l. absurd (lt_irrefl 0 (rw (le-ltb (lowest E n) n l) at h)))

  -- a closed walk begins at a number that lies on one, so a ring is found
  pub ring-found : Closed (Edge E n) → 0 < length (ring_of E n)
  unfolding ring_of
  ring-found c =
      let l : lowest E n < n = lowest-found E n c.from c.back.1 (comes_back_lem E n c.from c.back.1 c.last c.walk c.back) in
      rw (lt-ltb (lowest E n) n l) (from-ring (lowest E n) l (lowest-back E n l)).some

-- ---- the search sees of a relation what it says of the numbers below n

module _ (E F : ℕ → ℕ → Bool) (n : ℕ) (h : (i j : ℕ) → i < n → j < n → E i j ≡ F i j) where
  before_same : (x : ℕ) → x < n → (y : ℕ) → y < n → before E n (reached E n x) y ≡ before F n (reached F n x) y
  before_same x lx y ly = before-ext E F n (reached E n x) (reached F n x) y (λ j lj. h j y lj ly) (λ j lj. ap (memb j) (bfs-ext E F n h x lx))

  comes-same : (x : ℕ) → x < n → comes_back E n x ≡ comes_back F n x
  unfolding comes_back
  comes-same x l = ap (λ (k : ℕ). ltb k n) (before_same x l x l)

  lowest-same : lowest E n ≡ lowest F n
  unfolding lowest
  lowest-same = least-ext (comes_back E n) (comes_back F n) n 0 (λ x _ l. comes-same x (omega arith))

  back-same : (x : ℕ) (l : x < n) → comes_back F n x ≡ true → (f : ℕ) (w : List ℕ) (y : ℕ) → reached F n x y ≡ true
      → go_back (before E n (reached E n x)) f w y ≡ go_back (before F n (reached F n x)) f w y
  unfolding go_back
  back-same x l c zero w y k = refl
  back-same x l c (suc f) w y k =
      let s : before E n (reached E n x) y ≡ before F n (reached F n x) y = before_same x l y (reached-below F n x l y k) in
      on (memb y w)
      (λ e. rw e)
      (λ e. rw (e, s) (back-same x l c f (y ∷ w) (before F n (reached F n x) y) (before-kept F n x l c y k)))

  pub ring-ext : ring_of E n ≡ ring_of F n
  unfolding ring_of
  ring-ext =
      rw lowest-same
      (on_below (lowest F n) n
      (λ l. rw (lt-ltb (lowest F n) n l) (back-same (lowest F n) l (lowest-back F n l) (suc n) [] (lowest F n) (reached-self F n (lowest F n) l)))
      (λ l. rw (le-ltb (lowest F n) n l)))
