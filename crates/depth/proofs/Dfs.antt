-- Laws of a visit and of the steps that it tries, one at a time. Assumes nothing.
use mathlib.Core.Path.{◌≡◌, refl, sym, ap, ◌∙◌}
use mathlib.Core.Bool.{Bool, true, false, not, ◌&&◌, and-false}
use mathlib.Core.List.{List}
use Prim.Native.Nat.{ℕ, suc, ◌+◌, ◌-◌, ◌<◌}
use native.Mathlib.Omega.{arith}
use lib.Dec.{eqb, ltb}
use lib.ListN.{length, get_or, set}
use lib.Seq.{get_or-set_same, get_or-set_other}
use mir.Val.{bool_byte}
use borrow.Author.Tests.{eqb-true, ne_eqb, lt-ltb, not-true, not-false}
use Rattle.lists.proofs.Cases.{on_same, clash}
use Rattle.lists.proofs.Count.{count-flip}
use Rattle.depth.specs.Dfs.{Progress, unmarked, mark, enlist, tried, tries, visits}
use Rattle.depth.specs.Went.{free}

-- one number fewer is not marked
pub free-mark : (n x : ℕ) (m : List ℕ) → x < n → x < length m → get_or m x 0 ≡ 0 → free n m ≡ suc (free n (set m x 1))
unfolding free
free-mark n x m l b z =
    count-flip (unmarked (set m x 1)) (unmarked m) x n l
    (ap (λ (i : ℕ). eqb i 0) (get_or-set_same m x 1 0 b))
    (ap (λ (i : ℕ). eqb i 0) z)
    (λ y ne. ap (λ (i : ℕ). eqb i 0) (sym (get_or-set_other m x y 1 0 ne)))

-- ---- the code's test

pub due-free : (a : Bool) (m : ℕ) → not (a && eqb m 0) ≡ false → m ≡ 0
due-free true m e = eqb-true m 0 (not-false (eqb m 0) e)
due-free false m e = clash refl e

pub hindered-is : (a : Bool) (m : ℕ) → ltb 0 (bool_byte (not a) + m) ≡ not (a && eqb m 0)
hindered-is true m = on_same m 0 (λ e. rw e) (λ ne. lt-ltb 0 (0 + m) (omega arith) ∙ sym (ap not (ne_eqb m 0 ne)))
hindered-is false m = lt-ltb 0 (1 + m) (omega arith)

module _ (E : ℕ → ℕ → Bool) (v : ℕ → Progress → Progress) where
  pub tried-none : (x k : ℕ) (s : Progress) → E x k ≡ false → tried E v x k s ≡ s
  unfolding tried
  tried-none x k s e = rw e

  pub tried-marked : (x k : ℕ) (s : Progress) → unmarked s.marks k ≡ false → tried E v x k s ≡ s
  unfolding tried
  tried-marked x k s e = rw (e, and-false)

  pub tried-new : (x k : ℕ) (s : Progress) → E x k ≡ true → unmarked s.marks k ≡ true → tried E v x k s ≡ v k s
  unfolding tried
  tried-new x k s e m = rw (e, m)

  -- as the code tests it
  pub tried-refused : (x k : ℕ) (s : Progress) → not (E x k && unmarked s.marks k) ≡ true → tried E v x k s ≡ s
  unfolding tried
  tried-refused x k s e = rw (not-true (E x k && unmarked s.marks k) e)

  pub tried-due : (x k : ℕ) (s : Progress) → not (E x k && unmarked s.marks k) ≡ false → tried E v x k s ≡ v k s
  unfolding tried
  tried-due x k s e = rw (not-false (E x k && unmarked s.marks k) e)

  pub tries-step : (x k : ℕ) (s : Progress) → 0 < k → tries E v x k s ≡ tries E v x (k - 1) (tried E v x (k - 1) s)
  unfolding tries
  tries-step x k s l =
      let e : k ≡ suc (k - 1) = omega arith in
      ap (λ (i : ℕ). tries E v x i s) e

  pub tries-end : (x : ℕ) (s : Progress) → tries E v x 0 s ≡ s
  unfolding tries
  tries-end x s = refl

-- a step tried sees of a relation what it says of the numbers below n
pub tried-ext : (E F : ℕ → ℕ → Bool) (n : ℕ) → ((i j : ℕ) → i < n → j < n → E i j ≡ F i j) → (v w : ℕ → Progress → Progress) → ((k : ℕ) (s : Progress) → k < n → v k s ≡ w k s)
    → (x k : ℕ) (s : Progress) → x < n → k < n → tried E v x k s ≡ tried F w x k s
unfolding tried
tried-ext E F n h v w g x k s lx lk = rw (h x k lx lk, g k s lk)

pub visits-more : (E : ℕ → ℕ → Bool) (n f x : ℕ) (s : Progress) → 0 < f → visits E n f x s ≡ enlist x (tries E (visits E n (f - 1)) x n (mark x s))
unfolding visits
visits-more E n f x s l =
    let e : f ≡ suc (f - 1) = omega arith in
    ap (λ (i : ℕ). visits E n i x s) e
