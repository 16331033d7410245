-- Walks with their number of steps, and the least number of steps. Assumes nothing.
use Rattle.std.specs.Prelude.{ℕ, zero, suc, ◌≤◌}

-- y is reached from x by a walk of k steps
pub data ReachIn (R : ℕ → ℕ → Type 0) (x : ℕ) : ℕ → ℕ → Type 0 where
  start : ReachIn R x zero x
  onward : {k y z : ℕ} → ReachIn R x k y → R y z → ReachIn R x (suc k) z

-- a walk from x to y has k steps, and none has fewer
pub record Least (R : ℕ → ℕ → Type 0) (x y k : ℕ) : Type 0 where
  pub walk : ReachIn R x k y
  pub fewest : (j : ℕ) → ReachIn R x j y → k ≤ j
