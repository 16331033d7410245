-- What the functions of the search find of one record. Assumes nothing.
use mathlib.Core.Path.{◌≡◌, refl, sym, ap, ◌∙◌, subst}
use mathlib.Core.Bool.{Bool, true, false, not}
use mathlib.Core.List.{List, [], ◌∷◌}
use Prim.Native.Nat.{ℕ, zero, suc, ◌+◌, ◌≤◌, ◌<◌}
use native.Mathlib.Nat.{not-suc-le-zero, le_of_suc-le-suc, lt_irrefl, le_antisymm}
use native.Mathlib.Omega.{arith}
use lib.Dec.{eqb}
use lib.ListN.{length, get_or, set, length-set}
use lib.Seq.{get_or-set_same, get_or-set_other, ext_get_or}
use borrow.Author.Tests.{eq-eqb, ne_eqb, not-true, not-false}
use Rattle.lists.specs.Tests.{◌and◌}
use Rattle.lists.proofs.Cases.{on_same, on_below}
use Rattle.walks.proofs.Walks.{reach-map}
use Rattle.layout.specs.Layout.{vertex_limit}
use Rattle.graph.specs.Reach.{matrix}
use Rattle.graph.specs.Post.{Reached}
use Rattle.steps.specs.Inner.{cell}
use Rattle.cut.specs.State.{stopping, is_mate, FirstMate, is_kept, Cleared, CutIn, Decides, CutsMarked}

-- ---- mates: r is what `is_mate` found

pub mate-other : (m : List ℕ) (v j : ℕ) → (j ≡ v → ⊥) → matrix m v j ≡ is_mate (matrix m) v j
unfolding is_mate ◌and◌
mate-other m v j e = rw (ne_eqb j v e)

module _ (E : ℕ → ℕ → Bool) (v : ℕ) where
  pub mate-self : (j : ℕ) → j ≡ v → false ≡ is_mate E v j
  unfolding is_mate ◌and◌
  mate-self j e = rw (eq-eqb j v e)

  pub kept-other : (marks : List ℕ) (j : ℕ) (r : Bool) → r ≡ is_mate E v j → not r ≡ true → true ≡ is_kept E v marks j
  unfolding is_kept
  kept-other marks j r e h = rw (← e, not-true r h)

  pub kept-mate : (marks : List ℕ) (j : ℕ) (r : Bool) → r ≡ is_mate E v j → not r ≡ false → eqb (get_or marks j 0) 1 ≡ is_kept E v marks j
  unfolding is_kept
  kept-mate marks j r e h = rw (← e, not-false r h)

  -- the loop that looks for the first: none of the first k
  pub record Unmet (n k : ℕ) : Type 0 where
    pub within : k ≤ n
    pub none : (j : ℕ) → j < k → is_mate E v j ≡ false

  pub unmet-none : (n : ℕ) → Unmet n 0
  unmet-none n = record { within = omega arith; none = λ j l. absurd (not-suc-le-zero l) }

  module _ {n k : ℕ} (u : Unmet n k) where
    pub unmet-more : (r : Bool) → r ≡ is_mate E v k → r ≡ false → k < n → Unmet n (k + 1)
    unmet-more r e h l = record {
      within = omega arith;
      none = λ j b. on_same j k (λ s. ap (is_mate E v) s ∙ sym e ∙ h) (λ s. u.none j (omega arith));
    }

    pub unmet-found : (r : Bool) → r ≡ is_mate E v k → r ≡ true → FirstMate E n v k
    unmet-found r e h = record { within = u.within; none = u.none; found = λ _. sym e ∙ h }

    pub unmet-end : n ≤ k → FirstMate E n v n
    unmet-end l = record {
      within = omega arith;
      none = λ j b. u.none j (omega arith);
      found = λ b. absurd (lt_irrefl n b);
    }

-- ---- the matrix where nothing leads on from v

zero-at : (p : List ℕ) (k : ℕ) → get_or (set p k 0) k 0 ≡ 0
zero-at [] k = refl
zero-at (x ∷ p) zero = refl
zero-at (x ∷ p) (suc k) = zero-at p k

pub cleared-none : (v : ℕ) (m : List ℕ) → Cleared v 0 m m
cleared-none v m = record { long = refl; gone = λ i l. absurd (not-suc-le-zero l); same = λ k h. refl }

pub cleared_more : {v j : ℕ} {m p : List ℕ} → Cleared v j m p → (next : List ℕ) → next ≡ set p (cell v j) 0 → Cleared v (j + 1) m next
cleared_more {v} {j} {m} {p} c next e = record {
  long = rw (e, length-set) c.long;
  gone = λ i b. rw e (on_same i j
      (λ s. rw s (zero-at p (cell v j)))
      (λ s. get_or-set_other p (cell v j) (cell v i) 0 0 (λ q. s (omega arith)) ∙ c.gone i (omega arith)));
  same = λ k h. rw e (get_or-set_other p (cell v j) k 0 0 (h j (omega arith)) ∙ c.same k (λ i b. h i (omega arith)));
}

pub cleared-end : {v j : ℕ} {m p : List ℕ} → Cleared v j m p → j ≤ vertex_limit → vertex_limit ≤ j → Cleared v vertex_limit m p
cleared-end {v} {j} {m} {p} c a b = subst (λ (i : ℕ). Cleared v i m p) (le_antisymm a b) c

-- the matrix lent is the same
pub cleared-of : {v : ℕ} {m rest p : List ℕ} → Cleared v vertex_limit rest p → rest ≡ m → Cleared v vertex_limit m p
cleared-of {v} {m} {rest} {p} c e = subst (λ (q : List ℕ). Cleared v vertex_limit q p) e c

module _ {v : ℕ} {m p : List ℕ} (c : Cleared v vertex_limit m p) where
  stopped : (i k : ℕ) → i < vertex_limit → k < vertex_limit → matrix p i k ≡ stopping (matrix m) v i k
  unfolding stopping ◌and◌
  stopped i k li lk =
      on_same i v
      (λ s. rw (s, eq-eqb v v refl, c.gone k lk))
      (λ s. rw (ne_eqb i v s, c.same (cell i k) (λ b lb q. s (omega arith))))

  -- the search in that matrix
  pub reached-past : (n a : ℕ) (marks : List ℕ) → n ≤ vertex_limit → Reached (matrix p) n a marks → Reached (stopping (matrix m) v) n a marks
  reached-past n a marks le r = record {
    long = r.long;
    yes = λ j l w. r.yes j l (reach-map (λ x y e. (e.0, e.1, stopped x y (omega (arith, e.0)) (omega (arith, e.1)) ∙ e.2)) w);
    no = λ j l h. r.no j l (λ w. h (reach-map (λ x y e. (e.0, e.1, sym (stopped x y (omega (arith, e.0)) (omega (arith, e.1))) ∙ e.2)) w));
  }

-- the row is put back up to place j
pub record Restored (v j : ℕ) (m p : List ℕ) : Type 0 where
  pub long : length p ≡ length m
  pub same : (k : ℕ) → ((i : ℕ) → j ≤ i → i < vertex_limit → k ≡ cell v i → ⊥) → get_or p k 0 ≡ get_or m k 0

pub restored-none : {v : ℕ} {m p : List ℕ} → Cleared v vertex_limit m p → Restored v 0 m p
restored-none c = record { long = c.long; same = λ k h. c.same k (λ i l. h i (omega arith) l) }

pub restored-more : {v j : ℕ} {m p : List ℕ} → Restored v j m p → (next : List ℕ) → next ≡ set p (cell v j) (get_or m (cell v j) 0) → Restored v (j + 1) m next
restored-more {v} {j} {m} {p} r next e = record {
  long = rw (e, length-set) r.long;
  same = λ k h. rw e (on_same k (cell v j)
      (λ s. on_below k (length p)
      (λ l. rw s (get_or-set_same p (cell v j) (get_or m (cell v j) 0) 0 (rw s at l)))
      (λ l. beyond (set p (cell v j) (get_or m (cell v j) 0)) k (rw length-set l) ∙ sym (beyond m k (omega (arith, r.long)))))
      (λ s. get_or-set_other p (cell v j) k (get_or m (cell v j) 0) 0 s ∙ r.same k (λ i a b q. on_same i j (λ w. s (rw w at q)) (λ w. h i (omega arith) b q))));
}
  where
    beyond : (l : List ℕ) (i : ℕ) → length l ≤ i → get_or l i 0 ≡ 0
    beyond [] i h = refl
    beyond (x ∷ l) zero h = absurd (not-suc-le-zero h)
    beyond (x ∷ l) (suc i) h = beyond l i (le_of_suc-le-suc h)

pub restored-end : {v j : ℕ} {m p : List ℕ} → Restored v j m p → vertex_limit ≤ j → p ≡ m
restored-end {v} {j} {m} {p} r l = ext_get_or 0 p m r.long (λ k h. r.same k (λ i a b q. lt_irrefl i (omega arith)))

-- ---- each record

pub judged-none : (E : ℕ → ℕ → Bool) (n : ℕ) (cuts : List Bool) → length cuts ≡ vertex_limit → CutsMarked E n 0 cuts
judged-none E n cuts e = record { long = e; each = λ i l. absurd (not-suc-le-zero l) }

module _ {E : ℕ → ℕ → Bool} {n k : ℕ} {cuts : List Bool} (j : CutsMarked E n k cuts) where
  pub judged-more : (r : Bool) (next : List Bool) → n ≤ vertex_limit → k < n → Decides r (CutIn E n k) → next ≡ set cuts k r → CutsMarked E n (k + 1) next
  judged-more r next le l d e = record {
    long = rw (e, length-set) j.long;
    each = λ i b. rw e (on_same i k
        (λ s. rw (s, get_or-set_same cuts k r false (omega (arith, j.long))) d)
        (λ s. rw (get_or-set_other cuts k i r false s) (j.each i (omega arith))));
  }

  pub judged-end : k ≤ n → n ≤ k → CutsMarked E n n cuts
  judged-end a b = subst (λ (i : ℕ). CutsMarked E n i cuts) (le_antisymm a b) j
