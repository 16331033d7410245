-- The numbers outside the queue are looked at one by one: what the arrays hold before, between and after. Assumes nothing.
use mathlib.Core.Path.{◌≡◌, refl, sym, ap, ◌∙◌}
use mathlib.Core.Bool.{Bool, true, false, not, cond}
use mathlib.Core.List.{List, [], ◌∷◌, ◌++◌, append_assoc, append-nil}
use Prim.Native.Nat.{ℕ, ◌+◌, ◌-◌, ◌≤◌, ◌<◌}
use native.Mathlib.Nat.{add-zero, le_antisymm}
use native.Mathlib.Numerals.{add-one}
use native.Mathlib.Omega.{arith}
use mir.Val.{bool_byte}
use lib.Dec.{eqb}
use lib.ListN.{length, get_or, take, set, length-set}
use lib.Seq.{length-take-le, take_all, take-suc, take-set-le, take-suc-set, get_or-set_other, get_or-take}
use Rattle.lists.specs.Lists.{memb, filter}
use Rattle.lists.specs.Tests.{bit, chosen}
use Rattle.lists.proofs.Cases.{on, clash, and-false-right}
use Rattle.lists.proofs.Chosen.{chosen-in, chosen-out, chosen_none}
use Rattle.lists.proofs.Filter.{filter-snoc}
use Rattle.lists.proofs.Kept.{memb-filter}
use Rattle.lists.proofs.Memb.{memb-append, memb-getD, below-memb}
use Rattle.graph.specs.Bfs.{spread}
use Rattle.graph.specs.Held.{Rest, Queued, outside}
use Rattle.graph.specs.Sifted.{stays, Sifted}
use Rattle.graph.proofs.Held.{held-as, held-put}
use Rattle.graph.proofs.Outside.{byte_le, others-count, chosen-below, chosen-once, chosen-memb, distinct-before, spread-outside, outside-stay}

-- one number more at the end of a list in an array, where it is due; else the place is free for the next
put-end : (r l : List ℕ) (w j : ℕ) (b : Bool) → w < length r → take w r ≡ l → take (w + bool_byte b) (set r w j) ≡ cond b (l ++ (j ∷ [])) l
put-end r l w j true h e = rw (add-one w) (take-suc-set r w j h ∙ ap (λ (k : List ℕ). k ++ (j ∷ [])) e)
put-end r l w j false h e = rw (add-zero w) (take-set-le w r w j (omega arith) ∙ e)

-- ---- the numbers other than the start

-- of the numbers below j, those other than s, in the first w places of r
pub record Laid (n s j w : ℕ) (r : List ℕ) : Type 0 where
  pub within : j ≤ n
  pub upto : w ≤ j
  pub long : length r ≡ 256
  pub is : take w r ≡ chosen (outside (s ∷ [])) j

module _ {n s : ℕ} where
  pub laid-first : {r : List ℕ} → length r ≡ 256 → Laid n s 0 0 r
  laid-first l = record { within = omega arith; upto = omega arith; long = l; is = sym (chosen_none (outside (s ∷ []))) }

  module _ {j w : ℕ} {r : List ℕ} (a : Laid n s j w r) where
    pub laid_more : n ≤ 256 → j < n → Laid n s (j + 1) (w + bool_byte (not (eqb j s))) (set r w j)
    unfolding outside
    laid_more b l = record {
      within = omega arith;
      upto = omega (arith, a.upto, byte_le (not (eqb j s)));
      long = length-set r w j ∙ a.long;
      is = put-end r (chosen (outside (s ∷ [])) j) w j (not (eqb j s)) (omega (arith, a.upto, a.long)) a.is
          ∙ on (eqb j s)
          (λ e. rw e (sym (chosen-out (outside (s ∷ [])) j (rw e))))
          (λ e. rw e (sym (chosen-in (outside (s ∷ [])) j (rw e))));
    }

    pub laid_end : n ≤ 256 → s < n → n ≤ j → Rest n 1 r (s ∷ [])
    laid_end b l h =
        let e : j ≡ n = le_antisymm a.within h in
        let c : take w r ≡ chosen (outside (s ∷ [])) n = a.is ∙ ap (chosen (outside (s ∷ []))) e in
        let k : n - 1 ≡ w = omega (arith, others-count s n l, ap length c, length-take-le w r (omega (arith, a.upto, a.long))) in
        record { long = a.long; is = ap (λ (i : ℕ). take i r) k ∙ c }

-- ---- the numbers outside the queue

joined : (b : Bool) (q l : List ℕ) (j : ℕ) → q ++ cond b (l ++ (j ∷ [])) l ≡ cond b (q ++ l ++ (j ∷ [])) (q ++ l)
joined true q l j = sym (append_assoc q l (j ∷ []))
joined false q l j = refl

places : (t k e : ℕ) (b : Bool) → e ≤ t + k → t + (k + 1) - (e + bool_byte b) ≡ t + k - e + bool_byte (not b)
places t k e true h = omega arith
places t k e false h = omega arith

-- before the first is looked at
pub sifted-first : {E : ℕ → ℕ → Bool} {n x t : ℕ} {q m o r : List ℕ} → n ≤ 256 → Queued n m o r t q → Sifted E n x t q m o r t 0
unfolding filter
sifted-first {E} {n} {x} {t} {q} {m} {o} {r} b g =
    let c : length (chosen (outside q) n) ≡ n - t = sym (ap length g.rest.is) ∙ length-take-le (n - t) r (omega (arith, g.rest.long)) in
    record {
      held = held-as g.held (append-nil q);
      left = omega arith;
      count = c;
      grew = omega arith;
      upto = omega arith;
      long = g.rest.long;
      stay = ap (λ (i : ℕ). take i r) (none t);
      ahead = λ i a l. sym (get_or-take (n - t) r i 0 l) ∙ ap (λ (z : List ℕ). get_or z i 0) g.rest.is;
    }
  where
    none : (t : ℕ) → t + 0 - t ≡ 0
    none t = omega arith

module _ {E : ℕ → ℕ → Bool} {n x t : ℕ} {q m o r : List ℕ} {e k : ℕ} (s : Sifted E n x t q m o r e k) (h : k < n - t) where
  all : List ℕ
  all = chosen (outside q) n

  next : get_or r k 0 ≡ get_or all k 0
  unfolding all
  next = s.ahead k (omega arith) h

  next-in : memb (get_or r k 0) all ≡ true
  unfolding all
  next-in = rw next (memb-getD all k (omega (arith, s.count)))

  pub sifted-below : get_or r k 0 < n
  unfolding all
  sifted-below = below-memb n all (chosen-below (outside q) n n (omega arith)) (get_or r k 0) next-in

  -- it is not in the queue
  next-new : memb (get_or r k 0) (q ++ filter (E x) (take k all)) ≡ false
  unfolding all outside
  next-new =
      let j : ℕ = get_or r k 0 in
      let a : memb j q ≡ false = on (memb j q) (λ p. clash next-in (chosen-memb (outside q) n j sifted-below ∙ ap not p)) (λ p. p) in
      let b : memb j (take k all) ≡ false = ap (λ (z : ℕ). memb z (take k all)) next ∙ distinct-before all k (chosen-once (outside q) n) (omega (arith, s.count)) in
      memb-append j q (filter (E x) (take k all)) ∙ rw (a, memb-filter (E x) j (take k all), b) (and-false-right (E x j) false refl)

  pub sifted-free : get_or m (get_or r k 0) 0 ≡ 0
  unfolding all
  sifted-free = s.held.marks (get_or r k 0) sifted-below ∙ ap bit next-new

  next-taken : take (k + 1) all ≡ take k all ++ (get_or r k 0 ∷ [])
  unfolding all
  next-taken = rw (add-one k, next) (take-suc all k 0 (omega (arith, s.count)))

  -- one number more is looked at: b, whether there is a step to it
  pub sifted-more : n ≤ 256 → (b : Bool) → E x (get_or r k 0) ≡ b
      → Sifted E n x t q (set m (get_or r k 0) (bool_byte b)) (set o e (get_or r k 0)) (set r (t + k - e) (get_or r k 0)) (e + bool_byte b) (k + 1)
  unfolding all stays
  sifted-more small b eb =
      let j : ℕ = get_or r k 0 in
      let w : ℕ = t + k - e in
      let fit : w < 256 = omega (arith, s.grew) in
      record {
        held = held-as (held-put s.held sifted-below small sifted-free b)
            (ap (λ (z : List ℕ). q ++ filter (E x) z) next-taken ∙ ap (λ (z : List ℕ). q ++ z) (filter-snoc (E x) (take k all) j) ∙ rw eb (joined b q (filter (E x) (take k all)) j));
        left = omega arith;
        count = s.count;
        grew = omega (arith, s.grew);
        upto = omega (arith, s.upto, byte_le b);
        long = length-set r w j ∙ s.long;
        stay = ap (λ (i : ℕ). take i (set r w j)) (places t k e b s.upto)
            ∙ put-end r (filter (stays E x) (take k all)) w j (not b) (omega (arith, fit, s.long)) s.stay
            ∙ sym (ap (filter (stays E x)) next-taken ∙ filter-snoc (stays E x) (take k all) j ∙ ap (λ (c : Bool). cond (not c) (filter (stays E x) (take k all) ++ (j ∷ [])) (filter (stays E x) (take k all))) eb);
        ahead = λ i a l. get_or-set_other r w i j 0 (λ c. omega (arith, s.grew)) ∙ s.ahead i (omega arith) l;
      }

-- all have been looked at
pub sifted-end : {E : ℕ → ℕ → Bool} {n x t : ℕ} {q m o r : List ℕ} {e k : ℕ} → Sifted E n x t q m o r e k → n - t ≤ k → t ≤ n → Queued n m o r e (spread E x n 0 q)
sifted-end {E} {n} {x} {t} {q} {m} {o} {r} {e} {k} s h b =
    let whole : take k (chosen (outside q) n) ≡ chosen (outside q) n = take_all k (chosen (outside q) n) (omega (arith, s.count)) in
    let is : spread E x n 0 q ≡ q ++ filter (E x) (take k (chosen (outside q) n)) = spread-outside E x q n ∙ ap (λ (z : List ℕ). q ++ filter (E x) z) (sym whole) in
    let left : n - e ≡ t + k - e = omega (arith, s.left) in
    record {
      held = held-as s.held is;
      rest = record {
        long = s.long;
        is = ap (λ (i : ℕ). take i r) left ∙ s.stay ∙ ap (filter (stays E x)) whole ∙ outside-stay E x q n ∙ ap (λ (z : List ℕ). chosen (outside z) n) (sym (spread-outside E x q n));
      };
    }
