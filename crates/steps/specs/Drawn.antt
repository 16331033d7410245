-- What the matrix holds while the lists are gone through. Assumes nothing.
use Rattle.std.specs.Prelude.{Bool, true, false, ◌||◌, List, ℕ, take, set}
use Rattle.lists.specs.Tests.{◌and◌}
use Rattle.lists.specs.Lists.{any}
use Rattle.layout.specs.Content.{Table}
use Rattle.layout.specs.Layout.{limit, vertex_count, read}
use Rattle.layout.specs.Steps.{makes_step}
use Rattle.steps.specs.Matrices.{between}
use Rattle.steps.specs.Inner.{Holds}

-- one of the first k hyperedges makes the step x to y
unfoldable pub first_steps : Table → ℕ → ℕ → ℕ → Bool
first_steps t k x y = any (makes_step x y) (take k t.hyperedges)

-- a relation as it leads, where forth; against its direction, where back
unfoldable pub along : Bool → Bool → (ℕ → ℕ → Bool) → ℕ → ℕ → Bool
along forth back R x y = (forth and R x y) || (back and R y x)

-- the matrix after the first k hyperedges of the table
abbrev pub Drawn : Bool → Bool → List ℕ → ℕ → List ℕ → Type 0
Drawn forth back ws k m = Holds (between (read limit ws) (along forth back (first_steps (read limit ws) k))) (vertex_count ws) m

-- one mark, where it is due
abbrev pub putting : Bool → ℕ → List ℕ → List ℕ
putting true k m = set m k 1
putting false k m = m
