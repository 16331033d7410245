-- The sort: the lexicographically smallest order of live vertices in which every step goes forward. Assumes nothing.
use Rattle.std.specs.Prelude.{Bool, cond, List, [], map, ℕ, eqb, length, Ok, Err}
use Rattle.lists.specs.Tests.{bit}
use Rattle.walks.specs.Walks.{Closed}
use Rattle.layout.specs.declared.Refusal.TheVariants.{ClosedWalk}
use Rattle.layout.specs.Content.{Table, live_vertices, is_live}
use Rattle.layout.specs.Steps.{StepIn}
use Rattle.layout.specs.Answers.{Result, result_of, listed}
use Rattle.order.specs.Sort.{Smallest}
use Rattle.order.specs.Greedy.{greedy}
use Rattle.steps.specs.Matrices.{number_of, steps_between}

-- l is the lexicographically smallest order of live vertices in which every step goes forward
abbrev pub SmallestIn : Table → List ℕ → Type 0
SmallestIn t l = Smallest (is_live (live_vertices t)) (StepIn t) l

-- steps form a closed walk
abbrev pub ClosedIn : Table → Type 0
ClosedIn t = Closed (StepIn t)

-- the order as it is made: of the vertices that are not placed and to which no such vertex has a step, the smallest is placed
-- next. The records ascend by number.
unfoldable pub sort_of : Table → List ℕ
sort_of t = map (number_of t) (greedy (steps_between t) (length (live_vertices t)))

-- every live vertex could be placed
unfoldable pub acyclic : Table → Bool
acyclic t = eqb (length (sort_of t)) (length (live_vertices t))

-- topological_sort: 1, 9, 11
unfoldable pub sort_result : List ℕ → Table → Result
sort_result lent t = cond (acyclic t) (listed (sort_of t) lent) (result_of (Err ClosedWalk) lent)

-- is_acyclic: 1; then no where the sort meets 9, else yes
unfoldable pub acyclic_result : Table → Result
acyclic_result t = result_of (Ok (bit (acyclic t))) []
