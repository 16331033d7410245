-- The first free number, sought from the front: what is left of the search has the answer of the whole. Assumes nothing.
use mathlib.Core.Path.{◌≡◌, refl, sym, ap, ◌∙◌}
use mathlib.Core.Bool.{Bool, true, false, not}
use mathlib.Core.List.{List}
use Prim.Native.Nat.{ℕ, zero, suc, ◌+◌, ◌-◌, ◌≤◌, ◌<◌}
use native.Mathlib.Nat.{le_antisymm}
use native.Mathlib.Numerals.{add-one}
use native.Mathlib.Omega.{arith}
use lib.Dec.{eqb}
use lib.ListN.{get_or}
use borrow.Author.Tests.{eq-eqb, ne_eqb, not-true, not-false}
use Rattle.lists.specs.Tests.{◌and◌, every}
use Rattle.lists.proofs.Cases.{and-false-right, and-true}
use Rattle.lists.proofs.Every.{every-at}
use Rattle.order.specs.Least.{least}
use Rattle.order.specs.State.{is_free, busy}
use Rattle.order.proofs.Least.{least_on, least-found, least_step, least-end}

-- numbers that don't pass are passed over
least_skip : (f : ℕ → Bool) (c m j : ℕ) → ((i : ℕ) → i < c → f (j + i) ≡ false) → least f (c + m) j ≡ least f m (j + c)
least_skip f zero m j h = let z : zero + m ≡ m = omega arith in let e : j ≡ j + zero = omega arith in ap (λ (i : ℕ). least f i j) z ∙ ap (least f m) e
least_skip f (suc c) m j h =
    let z : j + zero ≡ j = omega arith in
    let s : suc j + c ≡ j + suc c = omega arith in
    let t : suc c + m ≡ suc (c + m) = omega arith in
    ap (λ (i : ℕ). least f i j) t ∙ least_on f (c + m) j (ap f (sym z) ∙ h zero (omega arith))
    ∙ least_skip f c m (suc j) (λ i l. let e : suc j + i ≡ j + suc i = omega arith in ap f e ∙ h (suc i) (omega arith))
    ∙ ap (least f m) s

-- ---- k numbers are left of the n, and `need` is d

pub left-first : (d : List ℕ) (n : ℕ) → least (is_free d) n (n - n) ≡ least (is_free d) n 0
left-first d n = let z : n - n ≡ 0 = omega arith in ap (least (is_free d) n) z

module _ (d : List ℕ) (n k whole : ℕ) (le : k ≤ n) (h : least (is_free d) k (n - k) ≡ whole) where
  -- a block in which none is free: r is what `none_free` found of it
  pub left-pass : (c : ℕ) (r : Bool) → c ≤ k → r ≡ every (busy d (n - k)) c → not r ≡ false → least (is_free d) (k - c) (n - (k - c)) ≡ whole
  left-pass c r l e q =
      let none : (i : ℕ) → i < c → is_free d (n - k + i) ≡ false = λ i li. not-true (is_free d (n - k + i)) (every-at (busy d (n - k)) c i (sym e ∙ not-false r q) li) in
      let s : c + (k - c) ≡ k = omega arith in
      let j : n - k + c ≡ n - (k - c) = omega arith in
      ap (least (is_free d) (k - c)) (sym j) ∙ sym (least_skip (is_free d) c (k - c) (n - k) none) ∙ ap (λ (i : ℕ). least (is_free d) i (n - k)) s ∙ h

-- number j is looked at next: what is left of the search has the answer of the whole
pub first-begun : (d : List ℕ) (n k whole : ℕ) → k ≤ n → least (is_free d) k (n - k) ≡ whole → least (is_free d) (n - (n - k)) (n - k) ≡ whole
first-begun d n k whole l h = let s : n - (n - k) ≡ k = omega arith in ap (λ (i : ℕ). least (is_free d) i (n - k)) s ∙ h

module _ (d : List ℕ) (n j whole : ℕ) (h : least (is_free d) (n - j) j ≡ whole) where
  pub first-found : j < n → get_or d j 0 ≡ 0 → j ≡ whole
  first-found l e = sym (least-found (is_free d) n j l (eq-eqb (get_or d j 0) 0 e)) ∙ h

  pub first-on : j < n → (get_or d j 0 ≡ 0 → ⊥) → least (is_free d) (n - (j + 1)) (j + 1) ≡ whole
  first-on l e = sym (least_step (is_free d) n j l (ne_eqb (get_or d j 0) 0 e)) ∙ h

  pub first-none : j ≤ n → n ≤ j → n ≡ whole
  first-none l e = let s : n ≡ j = omega arith in s ∙ sym (least-end (is_free d) n j e) ∙ h

-- ---- a block, number by number: x is the number's count

pub still-free : (none : Bool) (x : ℕ) → x ≡ 0 → false ≡ (none and not (eqb x 0))
still-free none x e = sym (and-false-right none (not (eqb x 0)) (ap not (eq-eqb x 0 e)))

pub still-busy : (none : Bool) (x : ℕ) → (x ≡ 0 → ⊥) → none ≡ (none and not (eqb x 0))
still-busy none x e = sym (ap (λ (b : Bool). none and not b) (ne_eqb x 0 e) ∙ and-true none)

pub block-first : (d : List ℕ) (j : ℕ) → true ≡ every (busy d j) 0
unfolding every
block-first d j = refl

module _ (d : List ℕ) (j i : ℕ) (none : Bool) (h : none ≡ every (busy d j) i) where
  pub block_more : (r : Bool) → r ≡ (none and not (eqb (get_or d (j + i) 0) 0)) → r ≡ every (busy d j) (i + 1)
  unfolding every
  block_more r e = rw (add-one i, ← h) e

  pub block-end : (n : ℕ) → i ≤ n → n ≤ i → none ≡ every (busy d j) n
  block-end n a b = h ∙ ap (every (busy d j)) (le_antisymm a b)
