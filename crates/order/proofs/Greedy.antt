-- The sort as it is made has every number exactly where no walk is closed, and is then the smallest order. Assumes nothing.
use mathlib.Core.Path.{◌≡◌, refl, sym, ap, ◌∙◌, subst}
use mathlib.Core.Bool.{Bool, true, false, ◌||◌, not}
use mathlib.Core.Logic.{inl, inr, ⊎_elim}
use mathlib.Core.List.{List, [], ◌∷◌, ◌++◌, append-nil}
use Prim.Native.Nat.{ℕ, zero, suc, ◌+◌, ◌≤◌, ◌<◌}
use native.Mathlib.Nat.{lt_irrefl, not-suc-le-zero}
use native.Mathlib.Omega.{arith}
use lib.Dec.{eqb, ltb}
use lib.ListN.{length, get_or, length-append, get_or-append}
use lib.Seq.{get_or-append_seam, append_snoc}
use borrow.Author.Tests.{not-true, ne_eqb, eq-eqb, eqb-true, eqb-false, lt-ltb, le-ltb, ltb-true, ltb-false}
use Rattle.graph.specs.Reach.{Edge}
use Rattle.lists.proofs.Cases.{on, on_same, clash, or_right, test-ext, and-true-left, and-true-right}
use Rattle.lists.proofs.Count.{pigeon, full, lacks, count_none}
use Rattle.lists.proofs.Memb.{memb-left, memb-snoc, memb-getD, memb-at, below-snoc, distinct_snoc, memb-append, memb-self, below-memb}
use Rattle.lists.specs.Lists.{memb, is_below, Distinct}
use Rattle.lists.specs.Inner.{Below}
use Rattle.lists.specs.Tests.{count}
use Rattle.order.proofs.Least.{least-hit, least-le, count-zero, count-some}
use Rattle.order.specs.Sort.{Forward, LexLe, Smallest}
use Rattle.walks.proofs.Walks.{reach-trans}
use Rattle.walks.specs.Walks.{Reach, here, step, Closed}
use Rattle.order.specs.Greedy.{waits, available, next, rest, greedy}

module _ (E : ℕ → ℕ → Bool) (n : ℕ) where
  pub avail-new : (p : List ℕ) (v : ℕ) → available E n p v ≡ true → memb v p ≡ false
  unfolding available
  avail-new p v e = not-true (memb v p) (and-true-left (not (memb v p)) (eqb (count (waits E p v) n) 0) e)

  avail-pred : (p : List ℕ) (v : ℕ) → available E n p v ≡ true → (u : ℕ) → u < n → E u v ≡ true → memb u p ≡ true
  unfolding available
  avail-pred p v e u l h =
      on (memb u p) (λ t. t)
      (λ t. clash (rw (h, t))
      (count-zero (waits E p v) n (eqb-true (count (waits E p v) n) 0 (and-true-right (not (memb v p)) (eqb (count (waits E p v) n) 0) e)) u l))

  avail-is : (p : List ℕ) (v : ℕ) → memb v p ≡ false → ((u : ℕ) → u < n → E u v ≡ true → memb u p ≡ true) → available E n p v ≡ true
  unfolding available
  avail-is p v m h =
      rw m (eq-eqb (count (waits E p v) n) 0 (count_none (waits E p v) n
      (λ i l. on (E i v) (λ e. rw (e, h i l e)) (λ e. rw e))))

  -- a number that is not placed and not to be placed next has a step from one that is not placed
  waiting : (p : List ℕ) (v : ℕ) → memb v p ≡ false → available E n p v ≡ false → (u : ℕ) × (u < n) × (memb u p ≡ false) × (E u v ≡ true)
  unfolding available
  waiting p v m e =
      let z : count (waits E p v) n ≡ 0 → ⊥ = eqb-false (count (waits E p v) n) 0 (rw m at e) in
      let r = count-some (waits E p v) n z in
      (r.0, r.1, not-true (memb r.0 p) (and-true-right (E r.0 v) (not (memb r.0 p)) r.2), and-true-left (E r.0 v) (not (memb r.0 p)) r.2)

  -- what is placed: each once, with all that has a step to it, and only forward
  pub record Placed (p : List ℕ) : Type 0 where
    pub once : Distinct p
    pub below : Below n p
    pub preds : (u y : ℕ) → u < n → memb y p ≡ true → E u y ≡ true → memb u p ≡ true
    pub forward : (i j : ℕ) → i < length p → j < length p → E (get_or p i 0) (get_or p j 0) ≡ true → i < j

  placed-none : Placed []
  placed-none = record {
    once = tt;
    below = tt;
    preds = λ u y l m. clash m refl;
    forward = λ i j l. absurd (not-suc-le-zero l);
  }

  placed-more : (p : List ℕ) (v : ℕ) → Placed p → v < n → available E n p v ≡ true → Placed (p ++ (v ∷ []))
  placed-more p v h l e =
      let q : List ℕ = p ++ (v ∷ []) in
      let old : (i : ℕ) → i < length p → get_or q i 0 ≡ get_or p i 0 = λ i a. get_or-append p (v ∷ []) 0 i a in
      let last : get_or q (length p) 0 ≡ v = get_or-append_seam p v [] 0 in
      let len : length q ≡ length p + 1 = length-append p (v ∷ []) in
      let new : memb v p ≡ false = avail-new p v e in
      let small : (i : ℕ) → i < length p → get_or p i 0 < n = λ i a. below-memb n p h.below (get_or p i 0) (memb-getD p i a) in
      record {
        once = distinct_snoc p v h.once new;
        below = below-snoc n p v h.below l;
        preds = λ u y a m r. ⊎_elim
            (λ (t : memb y p ≡ true). memb-left u p (v ∷ []) (h.preds u y a t r))
            (λ (t : y ≡ v). memb-left u p (v ∷ []) (avail-pred p v e u a (subst (λ (z : ℕ). E u z ≡ true) t r)))
            (memb-snoc y v p m);
        forward = λ i j a b r. on_same i (length p)
            (λ ei. on_same j (length p)
            (λ ej. clash (avail-pred p v e v l (subst (λ (z : ℕ). E z v ≡ true) (ap (λ (w : ℕ). get_or q w 0) ei ∙ last) (subst (λ (z : ℕ). E (get_or q i 0) z ≡ true) (ap (λ (w : ℕ). get_or q w 0) ej ∙ last) r))) new)
            (λ nj.
            let bj : j < length p = omega arith in
            clash (h.preds v (get_or p j 0) l (memb-getD p j bj) (subst (λ (z : ℕ). E z (get_or p j 0) ≡ true) (ap (λ (w : ℕ). get_or q w 0) ei ∙ last) (subst (λ (z : ℕ). E (get_or q i 0) z ≡ true) (old j bj) r))) new))
            (λ ni. on_same j (length p)
            (λ ej. omega arith)
            (λ nj.
            let bi : i < length p = omega arith in
            let bj : j < length p = omega arith in
            h.forward i j bi bj (subst (λ (z : ℕ). E z (get_or p j 0) ≡ true) (old i bi) (subst (λ (z : ℕ). E (get_or q i 0) z ≡ true) (old j bj) r))));
      }

  pub next-avail : (p : List ℕ) → next E n p < n → available E n p (next E n p) ≡ true
  unfolding next
  next-avail p l = least-hit (available E n p) n 0 (omega arith)

  next_le : (p : List ℕ) (v : ℕ) → v < n → available E n p v ≡ true → next E n p ≤ v
  unfolding next
  next_le p v l e = least-le (available E n p) n 0 v (omega arith) (omega arith) e

  pub rest_more : (f : ℕ) (p : List ℕ) → next E n p < n → rest E n (suc f) p ≡ next E n p ∷ rest E n f (p ++ (next E n p ∷ []))
  unfolding rest
  rest_more f p l = rw (lt-ltb (next E n p) n l)

  pub rest_end : (f : ℕ) (p : List ℕ) → n ≤ next E n p → rest E n f p ≡ []
  unfolding rest
  rest_end zero p l = refl
  rest_end (suc f) p l = rw (le-ltb (next E n p) n l)

  rest-zero : (p : List ℕ) → rest E n zero p ≡ []
  unfolding rest
  rest-zero p = refl

  -- the order as it is when nothing more can be placed
  abbrev Ended : List ℕ → Type 0
  Ended p = Placed p × (length p < n → n ≤ next E n p)

  rest_ended : (f : ℕ) (p : List ℕ) → Placed p → n ≤ length p + f → Ended (p ++ rest E n f p)
  rest_ended zero p h b =
      subst Ended (sym (ap (λ (r : List ℕ). p ++ r) (rest-zero p) ∙ append-nil p)) (h, λ l. absurd (lt_irrefl n (omega arith)))
  rest_ended (suc f) p h b =
      on (ltb (next E n p) n)
      (λ e.
      let l : next E n p < n = ltb-true (next E n p) n e in
      let q : List ℕ = p ++ (next E n p ∷ []) in
      subst Ended (append_snoc p (next E n p) (rest E n f q) ∙ sym (ap (λ (r : List ℕ). p ++ r) (rest_more f p l)))
      (rest_ended f q (placed-more p (next E n p) h l (next-avail p l)) (omega (arith, length-append p (next E n p ∷ [])))))
      (λ e.
      let l : n ≤ next E n p = ltb-false (next E n p) n e in
      subst Ended (sym (ap (λ (r : List ℕ). p ++ r) (rest_end (suc f) p l) ∙ append-nil p)) (h, λ _. l))

  greedy-ended : Ended (greedy E n)
  unfolding greedy
  greedy-ended = rest_ended n [] placed-none (omega arith)

  pub greedy-below : Below n (greedy E n)
  greedy-below = greedy-ended.0.below

  pub greedy-short : length (greedy E n) ≤ n
  greedy-short = pigeon (greedy E n) n greedy-ended.0.once greedy-below

  -- back along steps from numbers that are not placed to such numbers, till one comes again
  chase : (p : List ℕ) → n ≤ next E n p → (f x : ℕ) (w : List ℕ) → memb x p ≡ false → Distinct (x ∷ w) → Below n (x ∷ w)
      → ((y : ℕ) → memb y (x ∷ w) ≡ true → Reach (Edge E n) x y) → n < f + length (x ∷ w) → Closed (Edge E n)
  chase p stuck zero x w m d b r l = absurd (lt_irrefl n (omega (arith, pigeon (x ∷ w) n d b)))
  chase p stuck (suc f) x w m d b r l =
      let none : available E n p x ≡ false = on (available E n p x) (λ e. absurd (lt_irrefl n (omega (arith, next_le p x b.0 e, b.0)))) (λ e. e) in
      let u = waiting p x m none in
      let back : Edge E n u.0 x = (u.1, b.0, u.3) in
      on (memb u.0 (x ∷ w))
      (λ e. record { from = x; last = u.0; walk = r u.0 e; back = back })
      (λ e. chase p stuck f u.0 (x ∷ w) u.2 (e, d) (u.1, b)
      (λ y g. on_same y u.0
      (λ s. subst (λ (z : ℕ). Reach (Edge E n) u.0 z) (sym s) here)
      (λ ne. reach-trans (step here back) (r y (sym (ap (λ (t : Bool). t || memb y (x ∷ w)) (ne_eqb y u.0 ne)) ∙ g))))
      (omega arith))

  pub greedy-fails : length (greedy E n) < n → Closed (Edge E n)
  greedy-fails l =
      let g = greedy E n in
      let h = greedy-ended in
      let x = lacks g n h.0.once h.0.below l in
      chase g (h.1 l) n x.0 [] x.2 (refl, tt) (x.1, tt)
      (λ y e. on_same y x.0
      (λ s. subst (λ (z : ℕ). Reach (Edge E n) x.0 z) (sym s) here)
      (λ ne. clash e (ap (λ (t : Bool). t || false) (ne_eqb y x.0 ne))))
      (omega arith)

  greedy-forward : length (greedy E n) ≡ n → Forward (is_below n) (Edge E n) (greedy E n)
  greedy-forward e =
      let h = greedy-ended.0 in
      record {
        once = h.once;
        same = λ x. test-ext (memb x (greedy E n)) (ltb x n)
            (λ m. lt-ltb x n (below-memb n (greedy E n) h.below x m))
            (λ m. full (greedy E n) n h.once h.below (omega (arith, e)) x (ltb-true x n m));
        forward = λ i j a b r. h.forward i j a b r.2;
      }

  -- no order comes before
  mid-new : (p : List ℕ) (y : ℕ) (k : List ℕ) → Distinct (p ++ (y ∷ k)) → memb y p ≡ false
  mid-new [] y k d = refl
  mid-new (x ∷ p) y k d =
      on_same y x
      (λ s. clash (subst (λ (z : ℕ). memb z (p ++ (y ∷ k)) ≡ true) s (memb-append y p (y ∷ k) ∙ or_right (memb y p) (memb y (y ∷ k)) (memb-self y k))) d.0)
      (λ ne. ap (λ (t : Bool). t || memb y p) (ne_eqb y x ne) ∙ mid-new p y k d.1)

  rest-lex : (f : ℕ) (p k : List ℕ) → Forward (is_below n) (Edge E n) (p ++ k) → LexLe (rest E n f p) k
  rest-lex zero p k t = subst (λ (r : List ℕ). LexLe r k) (sym (rest-zero p)) tt
  rest-lex (suc f) p [] t =
      on (ltb (next E n p) n)
      (λ e.
      let l : next E n p < n = ltb-true (next E n p) n e in
      clash (t.same (next E n p) ∙ e) (ap (memb (next E n p)) (append-nil p) ∙ avail-new p (next E n p) (next-avail p l)))
      (λ e. subst (λ (r : List ℕ). LexLe r []) (sym (rest_end (suc f) p (ltb-false (next E n p) n e))) tt)
  rest-lex (suc f) p (y ∷ k) t =
      let q : List ℕ = p ++ (y ∷ k) in
      let seam : get_or q (length p) 0 ≡ y = get_or-append_seam p y k 0 in
      let len : length q ≡ length p + suc (length k) = length-append p (y ∷ k) in
      let small : y < n = ltb-true y n (sym (t.same y) ∙ memb-append y p (y ∷ k) ∙ or_right (memb y p) (memb y (y ∷ k)) (memb-self y k)) in
      let ok : available E n p y ≡ true = avail-is p y (mid-new p y k t.once)
      (λ u a e.
      let at = memb-at u q (t.same u ∙ lt-ltb u n a) in
      let i : at.0 < length p = t.forward at.0 (length p) at.1 (omega arith) (rw (at.2, seam) (a, small, e)) in
      subst (λ (z : ℕ). memb z p ≡ true) (sym (get_or-append p (y ∷ k) 0 at.0 i) ∙ at.2) (memb-getD p at.0 i)) in
      let le : next E n p ≤ y = next_le p y small ok in
      let l : next E n p < n = omega arith in
      subst (λ (r : List ℕ). LexLe r (y ∷ k)) (sym (rest_more f p l))
      (on_same (next E n p) y
      (λ s. inr (s, rest-lex f (p ++ (next E n p ∷ [])) k (subst (λ (z : ℕ). Forward (is_below n) (Edge E n) (p ++ (z ∷ []) ++ k)) (sym s) (subst (Forward (is_below n) (Edge E n)) (sym (append_snoc p y k)) t))))
      (λ ne. inl (omega arith)))

  greedy-least : (k : List ℕ) → Forward (is_below n) (Edge E n) k → LexLe (greedy E n) k
  unfolding greedy
  greedy-least k t = rest-lex n [] k t

  -- where it has every number, it is the sort
  pub greedy-sorts : length (greedy E n) ≡ n → Smallest (is_below n) (Edge E n) (greedy E n)
  greedy-sorts e = record { order = greedy-forward e; least = greedy-least }
