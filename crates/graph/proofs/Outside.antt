-- The numbers outside the queue: which of them a round takes, and which it leaves. Assumes nothing.
use mathlib.Core.Path.{◌≡◌, refl, sym, ap, ◌∙◌}
use mathlib.Core.Bool.{Bool, true, false, not, cond, ◌||◌}
use mathlib.Core.List.{List, [], ◌∷◌, ◌++◌, append_assoc, append-nil}
use Prim.Native.Nat.{ℕ, zero, suc, ◌+◌, ◌≤◌, ◌<◌}
use native.Mathlib.Nat.{not-suc-le-zero, le_of_suc-le-suc, add-zero}
use native.Mathlib.Omega.{arith}
use mir.Val.{bool_byte}
use lib.ListN.{length, get_or, take}
use borrow.Author.Tests.{ne_eqb}
use Rattle.lists.specs.Lists.{memb, filter, Distinct}
use Rattle.lists.specs.Inner.{Below}
use Rattle.lists.specs.Tests.{◌and◌, count, chosen}
use Rattle.lists.proofs.Cases.{on, on_same, clash, and-false-right}
use Rattle.lists.proofs.Chosen.{chosen-count, chosen-ext}
use Rattle.lists.proofs.Count.{count-flip, count-all}
use Rattle.lists.proofs.Filter.{filter-snoc}
use Rattle.lists.proofs.Kept.{memb-filter}
use Rattle.lists.proofs.Memb.{memb-append, memb-self, memb-left, memb-snoc-self, memb-snoc-other, memb-getD, below-snoc, distinct_snoc}
use Rattle.graph.specs.Bfs.{spread, push}
use Rattle.graph.specs.Held.{outside}
use Rattle.graph.specs.Sifted.{stays}
use Rattle.graph.proofs.Bfs.{push-new, push-none, push-old}

-- ---- the numbers below n that pass a test

module _ (p : ℕ → Bool) where
  chosen-beyond : (n i : ℕ) → n ≤ i → memb i (chosen p n) ≡ false
  unfolding chosen
  chosen-beyond zero i h = refl
  chosen-beyond (suc n) i h =
      let r : memb i (chosen p n) ≡ false = chosen-beyond n i (omega arith) in
      on (p n) (λ e. rw e (memb-snoc-other i n (chosen p n) (λ s. omega arith) ∙ r)) (λ e. rw e r)

  pub chosen-memb : (n i : ℕ) → i < n → memb i (chosen p n) ≡ p i
  unfolding chosen
  chosen-memb zero i h = absurd (not-suc-le-zero h)
  chosen-memb (suc n) i h =
      on_same i n
      (λ s. rw s (on (p n) (λ e. rw e (memb-snoc-self n (chosen p n))) (λ e. rw e (chosen-beyond n n (omega arith)))))
      (λ ne.
      let r : memb i (chosen p n) ≡ p i = chosen-memb n i (omega arith) in
      on (p n) (λ e. rw e (memb-snoc-other i n (chosen p n) ne ∙ r)) (λ e. rw e r))

  pub chosen-below : (n k : ℕ) → n ≤ k → Below k (chosen p n)
  unfolding chosen
  chosen-below zero k h = tt
  chosen-below (suc n) k h =
      let b : Below k (chosen p n) = chosen-below n k (omega arith) in
      on (p n) (λ e. rw e (below-snoc k (chosen p n) n b (omega arith))) (λ e. rw e b)

  pub chosen-once : (n : ℕ) → Distinct (chosen p n)
  unfolding chosen
  chosen-once zero = tt
  chosen-once (suc n) = on (p n) (λ e. rw e (distinct_snoc (chosen p n) n (chosen-once n) (chosen-beyond n n (omega arith)))) (λ e. rw e (chosen-once n))

  -- of these, those that pass a second test
  filter-chosen : (g : ℕ → Bool) (n : ℕ) → filter g (chosen p n) ≡ chosen (λ i. p i and g i) n
  unfolding chosen filter ◌and◌
  filter-chosen g zero = refl
  filter-chosen g (suc n) =
      on (p n)
      (λ e. rw e (filter-snoc g (chosen p n) n ∙ ap (λ (l : List ℕ). cond (g n) (l ++ (n ∷ [])) l) (filter-chosen g n)))
      (λ e. rw e (filter-chosen g n))

-- all but one
pub others-count : (s n : ℕ) → s < n → length (chosen (outside (s ∷ [])) n) + 1 ≡ n
unfolding outside
others-count s n l =
    let e : count (λ _. true) n ≡ suc (count (outside (s ∷ [])) n) =
    count-flip (outside (s ∷ [])) (λ _. true) s n l (ap not (memb-self s [])) refl (λ y ne. sym (rw (ne_eqb y s ne))) in
    omega (arith, chosen-count (outside (s ∷ [])) n, count-all (λ _. true) n (λ i h. refl))

pub byte_le : (b : Bool) → bool_byte b ≤ 1
byte_le true = omega arith
byte_le false = omega arith

-- what stands at a place of a list with no repeat does not stand before it
pub distinct-before : (l : List ℕ) (k : ℕ) → Distinct l → k < length l → memb (get_or l k 0) (take k l) ≡ false
distinct-before [] k d h = absurd (not-suc-le-zero h)
distinct-before (y ∷ l) zero d h = refl
distinct-before (y ∷ l) (suc k) d h =
    let m : memb (get_or l k 0) l ≡ true = memb-getD l k (le_of_suc-le-suc h) in
    rw (ne_eqb (get_or l k 0) y (λ s. clash (ap (λ (z : ℕ). memb z l) (sym s) ∙ m) d.0)) (distinct-before l k d.1 (le_of_suc-le-suc h))

-- ---- a round of the queue

module _ (E : ℕ → ℕ → Bool) (x : ℕ) (q : List ℕ) where
  taken : ℕ → List ℕ
  taken j = q ++ filter (E x) (chosen (outside q) j)

  taken-push : (j : ℕ) → push E x (taken j) j ≡ taken (suc j)
  unfolding taken outside chosen
  taken-push j =
      on (memb j q)
      (λ e. push-old E x (taken j) j (memb-left j q (filter (E x) (chosen (outside q) j)) e) ∙ rw e)
      (λ e. on (E x j)
      (λ f. push-new E x (taken j) j f (memb-append j q (filter (E x) (chosen (outside q) j)) ∙ rw (e, memb-filter (E x) j (chosen (outside q) j), chosen-beyond (outside q) j j (omega arith)) (and-false-right (E x j) false refl))
      ∙ append_assoc q (filter (E x) (chosen (outside q) j)) (j ∷ []) ∙ rw (e, filter-snoc (E x) (chosen (outside q) j) j, f))
      (λ f. push-none E x (taken j) j f ∙ rw (e, filter-snoc (E x) (chosen (outside q) j) j, f)))

  taken-spread : (m j : ℕ) → spread E x m j (taken j) ≡ taken (j + m)
  unfolding spread
  taken-spread zero j = ap taken (sym (add-zero j))
  taken-spread (suc m) j = ap (spread E x m (suc j)) (taken-push j) ∙ taken-spread m (suc j) ∙ ap taken (s m j)
    where
      s : (m j : ℕ) → suc j + m ≡ j + suc m
      s m j = omega arith

  -- those outside to which there is a step join, in their order
  pub spread-outside : (n : ℕ) → spread E x n 0 q ≡ q ++ filter (E x) (chosen (outside q) n)
  unfolding taken chosen filter
  spread-outside n = ap (spread E x n 0) (sym (append-nil q)) ∙ taken-spread n 0 ∙ ap taken (z n)
    where
      z : (n : ℕ) → 0 + n ≡ n
      z n = omega arith

  stays-outside : (a e : Bool) → (not a and not e) ≡ not (a || (e and not a))
  unfolding ◌and◌
  stays-outside true e = refl
  stays-outside false true = refl
  stays-outside false false = refl

  -- the others stay outside
  pub outside-stay : (n : ℕ) → filter (stays E x) (chosen (outside q) n) ≡ chosen (outside (q ++ filter (E x) (chosen (outside q) n))) n
  unfolding outside stays
  outside-stay n =
      filter-chosen (outside q) (stays E x) n
      ∙ chosen-ext _ _ n (λ i l.
      stays-outside (memb i q) (E x i) ∙ sym (rw (memb-append i q (filter (E x) (chosen (outside q) n)), memb-filter (E x) i (chosen (outside q) n), chosen-memb (outside q) n i l)))
