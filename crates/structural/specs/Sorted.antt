-- What the search for the sort leaves, by record. Assumes nothing.
use Rattle.std.specs.Prelude.{◌≡◌, Bool, true, List, ℕ}
use Rattle.layout.specs.Layout.{limit, vertex_count, read}
use Rattle.order.specs.Greedy.{greedy}
use Rattle.steps.specs.Matrices.{steps_between}
use Rattle.steps.specs.Ordered.{Ordered}
use Rattle.structural.specs.Sort.{acyclic}

-- whether every live vertex could be placed, and if so the order of the records
pub record SortedRecords (ws : List ℕ) (found : Bool) (order : List ℕ) : Type 0 where
  pub is : found ≡ acyclic (read limit ws)
  pub listing : found ≡ true → Ordered (vertex_count ws) (vertex_count ws) order (greedy (steps_between (read limit ws)) (vertex_count ws))
