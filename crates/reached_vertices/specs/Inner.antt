-- What inner functions are stated with: steps in a direction, and the marks of a search without its start. Assumes nothing.
use Rattle.std.specs.Prelude.{◌≡◌, Bool, not, List, ℕ, ◌<◌, eqb, get_or}
use Rattle.lists.specs.Tests.{◌and◌, bit}
use Rattle.layout.specs.Content.{Table}
use Rattle.layout.specs.Layout.{limit, vertex_count, read}
use Rattle.layout.specs.Steps.{has_step}
use Rattle.lookups.specs.declared.Direction.{Direction}
use Rattle.lookups.specs.Lookups.{oriented}
use Rattle.steps.specs.Matrices.{number_of, between}
use Rattle.traversal.specs.Traversal.{reachable}

-- steps as they lead, or turned round, said of the records
abbrev pub steps_along : Direction → Table → ℕ → ℕ → Bool
steps_along dir t = between t (oriented dir (has_step t))

-- a search from record i has marked each record that is reached from it, or from which it is reached: by 1, and the others by 0
abbrev pub SeenAlong : Direction → List ℕ → ℕ → List ℕ → Type 0
SeenAlong dir ws i seen = (k : ℕ) → k < vertex_count ws
    → get_or seen k 0 ≡ bit (oriented dir (reachable (read limit ws)) (number_of (read limit ws) i) (number_of (read limit ws) k))

-- record k has a mark, and is not record i
unfoldable pub seen_beside : List ℕ → ℕ → ℕ → Bool
seen_beside seen i k = eqb (get_or seen k 0) 1 and not (eqb k i)
