-- A step between two vertices, in either order. Assumes nothing.
use Rattle.std.specs.Prelude.{Bool, ◌||◌, ℕ}
use Rattle.layout.specs.Steps.{Step, is_step}

-- the step x to y
abbrev pub step_of : ℕ → ℕ → Step
step_of x y = record { from = x; to = y }

-- the step leads from v to w or from w to v
unfoldable pub joins : ℕ → ℕ → Step → Bool
joins v w s = is_step v w s || is_step w v s
