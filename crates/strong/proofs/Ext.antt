-- The strong components see of a relation what it says of the numbers below n. Assumes nothing.
use mathlib.Core.Path.{◌≡◌, refl, ap, ap₂, ◌∙◌}
use mathlib.Core.Bool.{Bool, cond}
use mathlib.Core.List.{reverse}
use Prim.Native.Nat.{ℕ, zero, suc, ◌+◌, ◌≤◌, ◌<◌}
use native.Mathlib.Omega.{arith}
use Rattle.lists.specs.Tests.{◌and◌}
use Rattle.depth.specs.Dfs.{Progress, unmarked, mark, enlist, tried, tries, visits}
use Rattle.depth.specs.Finish.{start_at, sweep, untouched, finished}
use Rattle.depth.proofs.Dfs.{tried-ext}
use Rattle.components.specs.Classes.{reached, classes}
use Rattle.components.proofs.Roots.{classes-ext}
use Rattle.strong.specs.Strong.{mutually_reached, latest_first, strong}
use Rattle.strong.proofs.Latest.{latest-below}

module _ (E F : ℕ → ℕ → Bool) (n : ℕ) (h : (i j : ℕ) → i < n → j < n → E i j ≡ F i j) where
  tries-ext : (v w : ℕ → Progress → Progress) → ((k : ℕ) (s : Progress) → k < n → v k s ≡ w k s) → (x k : ℕ) (s : Progress) → x < n → k ≤ n → tries E v x k s ≡ tries F w x k s
  unfolding tries
  tries-ext v w e x zero s lx lk = refl
  tries-ext v w e x (suc k) s lx lk =
      ap (tries E v x k) (tried-ext E F n h v w e x k s lx (omega arith)) ∙ tries-ext v w e x k (tried F w x k s) lx (omega arith)

  visits-ext : (f x : ℕ) (s : Progress) → x < n → visits E n f x s ≡ visits F n f x s
  unfolding visits
  visits-ext zero x s l = refl
  visits-ext (suc f) x s l = ap (enlist x) (tries-ext (visits E n f) (visits F n f) (λ k t lk. visits-ext f k t lk) x n (mark x s) l (omega arith))

  sweep-ext : (m x : ℕ) (s : Progress) → x + m ≤ n → sweep E n m x s ≡ sweep F n m x s
  unfolding sweep start_at
  sweep-ext zero x s l = refl
  sweep-ext (suc m) x s l =
      ap (λ (r : Progress). sweep E n m (suc x) (cond (unmarked s.marks x) r s)) (visits-ext n x s (omega arith)) ∙ sweep-ext m (suc x) (start_at F n n x s) (omega arith)

  latest-ext : latest_first E n ≡ latest_first F n
  unfolding latest_first finished
  latest-ext = ap (λ (s : Progress). reverse s.out) (sweep-ext n 0 untouched (omega arith))

  pub strong-ext : n ≤ 256 → ((x y : ℕ) → x < n → y < n → reached E n x y ≡ reached F n x y) → strong E n ≡ strong F n
  unfolding mutually_reached
  strong-ext b r =
      classes-ext (mutually_reached E n) (mutually_reached F n) n (λ x y lx ly. ap₂ (λ (p q : Bool). p and q) (r x y lx ly) (r y x ly lx)) (latest_first E n) (latest-below E n b)
      ∙ ap (classes (mutually_reached F n) n) latest-ext
