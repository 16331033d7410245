-- The lowest number with a step to another, and the lowest number on a closed walk, as they are sought. Assumes nothing.
use mathlib.Core.Path.{◌≡◌, refl, sym, ap, ◌∙◌, subst}
use mathlib.Core.Bool.{Bool, true, false}
use mathlib.Core.List.{List}
use mathlib.Core.Logic.{◌⊎◌, inl, inr, ⊎_elim}
use Prim.Native.Nat.{ℕ, ◌+◌, ◌*◌, ◌-◌, ◌≤◌, ◌<◌}
use native.Mathlib.Nat.{lt_irrefl}
use native.Mathlib.Omega.{arith}
use lib.Dec.{eqb, ltb}
use lib.ListN.{get_or}
use borrow.Author.Tests.{ltb-true, lt-ltb, eq-eqb, ne_eqb}
use Rattle.lists.specs.Tests.{◌and◌}
use Rattle.lists.proofs.Cases.{and_left, and_right, and_both}
use Rattle.lists.proofs.Memb.{below-memb}
use Rattle.walks.specs.Walks.{Reach, here, step}
use Rattle.graph.specs.Reach.{Edge, matrix}
use Rattle.graph.specs.Bfs.{bfs}
use Rattle.graph.specs.Held.{Marks}
use Rattle.graph.proofs.Bfs.{bfs-sound, bfs-complete, bfs-below}
use Rattle.order.specs.Least.{least}
use Rattle.order.proofs.Least.{least-hit, least-le, least-found, least_step, least-end, least-ext}
use Rattle.components.specs.Classes.{reached}
use Rattle.components.specs.Parts.{flagged}
use Rattle.components.proofs.Parts.{flags-reached}
use Rattle.rings.specs.Search.{leads_to, before, comes_back, lowest}
use Rattle.rings.specs.State.{Tested, Begun}

-- ---- the test: e is the entry of the matrix, m the mark

module _ (adj marks : List ℕ) (y j : ℕ) where
  pub leads-no : (get_or adj (j * 256 + y) 0 ≡ 1 → ⊥) → false ≡ leads_to (matrix adj) (flagged marks) y j
  unfolding leads_to ◌and◌
  leads-no ne = rw (ne_eqb (get_or adj (j * 256 + y) 0) 1 ne)

  pub leads-marked : get_or adj (j * 256 + y) 0 ≡ 1 → eqb (get_or marks j 0) 1 ≡ leads_to (matrix adj) (flagged marks) y j
  unfolding leads_to ◌and◌
  leads-marked e = rw (eq-eqb (get_or adj (j * 256 + y) 0) 1 e)

-- ---- the loop over j

pub before-first : (E : ℕ → ℕ → Bool) (n : ℕ) (p : ℕ → Bool) (y : ℕ) → least (leads_to E p y) (n - 0) 0 ≡ before E n p y
unfolding before
before-first E n p y = let z : n - 0 ≡ n = omega arith in rw z

module _ (E : ℕ → ℕ → Bool) (n : ℕ) (p : ℕ → Bool) (y j : ℕ) (h : least (leads_to E p y) (n - j) j ≡ before E n p y) where
  pub before_here : j < n → (r : Bool) → r ≡ leads_to E p y j → r ≡ true → j ≡ before E n p y
  before_here l r e t = sym (least-found (leads_to E p y) n j l (sym e ∙ t)) ∙ h

  pub before_on : j < n → (r : Bool) → r ≡ leads_to E p y j → r ≡ false → least (leads_to E p y) (n - (j + 1)) (j + 1) ≡ before E n p y
  before_on l r e t = sym (least_step (leads_to E p y) n j l (sym e ∙ t)) ∙ h

  pub before-end : j ≤ n → n ≤ j → n ≡ before E n p y
  before-end a b = let s : n ≡ j = omega arith in s ∙ sym (least-end (leads_to E p y) n j b) ∙ h

-- it depends on the numbers below n alone
pub before-ext : (E F : ℕ → ℕ → Bool) (n : ℕ) (p q : ℕ → Bool) (y : ℕ) → ((j : ℕ) → j < n → E j y ≡ F j y) → ((j : ℕ) → j < n → p j ≡ q j)
    → before E n p y ≡ before F n q y
unfolding before leads_to
before-ext E F n p q y h g = least-ext (leads_to E p y) (leads_to F q y) n 0 (λ j _ l. let b : j < n = omega arith in rw (h j b, g j b))

-- by the marks of a search
pub before-marked : (E : ℕ → ℕ → Bool) (n x : ℕ) (marks : List ℕ) → Marks n marks (bfs E n x) → (y : ℕ) → before E n (flagged marks) y ≡ before E n (reached E n x) y
before-marked E n x marks m y = before-ext E E n (flagged marks) (reached E n x) y (λ j _. refl) (flags-reached E n x marks m)

-- ---- the loop over x: r and marks are what `comes_back` gave

module _ (E : ℕ → ℕ → Bool) (n : ℕ) where
  pub lowest-first : least (comes_back E n) (n - 0) 0 ≡ lowest E n
  unfolding lowest
  lowest-first = let z : n - 0 ≡ n = omega arith in rw z

  pub tested : (x b : ℕ) (marks : List ℕ) → Marks n marks (bfs E n x) → b ≡ before E n (flagged marks) x → Tested E n x (ltb b n) marks
  unfolding comes_back
  tested x b marks m e = record { is = ap (λ (k : ℕ). ltb k n) (e ∙ before-marked E n x marks m x); marked = m }

  module _ (x : ℕ) (h : least (comes_back E n) (n - x) x ≡ lowest E n) where
    module _ (r : Bool) (marks : List ℕ) (t : Tested E n x r marks) (l : x < n) where
      pub lowest-here : r ≡ true → Begun E n x marks
      lowest-here e =
          let c : comes_back E n x ≡ true = sym t.is ∙ e in
          record { is = sym (least-found (comes_back E n) n x l c) ∙ h; marked = λ _. t.marked; back = λ _. c }

      pub lowest-on : r ≡ false → least (comes_back E n) (n - (x + 1)) (x + 1) ≡ lowest E n
      lowest-on e = sym (least_step (comes_back E n) n x l (sym t.is ∙ e)) ∙ h

    pub lowest-end : x ≤ n → n ≤ x → (marks : List ℕ) → Begun E n n marks
    lowest-end a b marks = record {
      is = let s : n ≡ x = omega arith in s ∙ sym (least-end (comes_back E n) n x b) ∙ h;
      marked = λ l. absurd (lt_irrefl n l);
      back = λ l. absurd (lt_irrefl n l);
    }

  -- ---- what is found

  -- a walk has no step, or a last one
  last_step : {x y : ℕ} → Reach (Edge E n) x y → (y ≡ x) ⊎ ((z : ℕ) × Reach (Edge E n) x z × Edge E n z y)
  last_step here = inl refl
  last_step (step {y = z} w e) = inr (z, w, e)

  -- a number that passes and has a step to y: the one that is found is such a number
  before-hit : (p : ℕ → Bool) (y z : ℕ) → z < n → E z y ≡ true → p z ≡ true → (before E n p y < n)
  unfolding before leads_to
  before-hit p y z l e k = omega (arith, least-le (leads_to E p y) n 0 z (omega arith) (omega arith) (and_both (E z y) (p z) e k))

  before-leads : (p : ℕ → Bool) (y : ℕ) → before E n p y < n → leads_to E p y (before E n p y) ≡ true
  unfolding before
  before-leads p y l = least-hit (leads_to E p y) n 0 (omega arith)

  module _ (x : ℕ) (l : x < n) where
    pub reached-self : reached E n x x ≡ true
    reached-self = bfs-complete E n x l x here

    pub reached-below : (y : ℕ) → reached E n x y ≡ true → y < n
    reached-below y e = below-memb n (bfs E n x) (bfs-below E n x l) y e

    -- a walk that comes back
    pub comes_back_lem : (y : ℕ) → Reach (Edge E n) x y → Edge E n y x → comes_back E n x ≡ true
    unfolding comes_back
    comes_back_lem y w e = lt-ltb (before E n (reached E n x) x) n (before-hit (reached E n x) x y e.0 e.2 (bfs-complete E n x l y w))

    -- where x lies on a closed walk, going back from what is reached from x ends nowhere
    module _ (c : comes_back E n x ≡ true) (y : ℕ) (k : reached E n x y ≡ true) where
      pub before-below : before E n (reached E n x) y < n
      unfolding comes_back
      before-below =
          ⊎_elim
          (λ s. subst (λ (z : ℕ). before E n (reached E n x) z < n) (sym s) (ltb-true (before E n (reached E n x) x) n c))
          (λ r. before-hit (reached E n x) y r.0 r.2.0 r.2.2 (bfs-complete E n x l r.0 r.1))
          (last_step (bfs-sound E n x l y k))

      pub before-kept : reached E n x (before E n (reached E n x) y) ≡ true
      unfolding leads_to
      before-kept = and_right (E (before E n (reached E n x) y) y) (reached E n x (before E n (reached E n x) y)) (before-leads (reached E n x) y before-below)

      pub before-steps : E (before E n (reached E n x) y) y ≡ true
      unfolding leads_to
      before-steps = and_left (E (before E n (reached E n x) y) y) (reached E n x (before E n (reached E n x) y)) (before-leads (reached E n x) y before-below)

  -- the number that the search begins at lies on a closed walk
  pub lowest-back : lowest E n < n → comes_back E n (lowest E n) ≡ true
  unfolding lowest
  lowest-back l = least-hit (comes_back E n) n 0 (omega arith)

  pub lowest-found : (x : ℕ) → x < n → comes_back E n x ≡ true → lowest E n < n
  unfolding lowest
  lowest-found x l c = omega (arith, least-le (comes_back E n) n 0 x (omega arith) (omega arith) c)
