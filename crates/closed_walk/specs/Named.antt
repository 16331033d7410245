-- The closed walk of a table that is named. By `named-ring`, `named-nine` and `nine-named` (closed_walk/proofs/Naming) it is a closed walk
-- of the table's steps, and one is named exactly where the sort meets 9. Assumes nothing.
use Rattle.std.specs.Prelude.{List, map, ℕ, length}
use Rattle.layout.specs.Content.{Table, live_vertices}
use Rattle.layout.specs.Steps.{StepIn}
use Rattle.layout.specs.Answers.{Result, listed}
use Rattle.steps.specs.Matrices.{number_of, steps_between}
use Rattle.rings.specs.Rings.{Ring}
use Rattle.rings.specs.Search.{ring_of}

-- w is a closed walk of the table, each vertex once: each has a step to the next, and the last to the first
abbrev pub RingIn : Table → List ℕ → Type 0
RingIn t w = Ring (StepIn t) w

-- from the lowest vertex on a closed walk back, each time to the lowest one that is reached from it, till a vertex comes again; the
-- records ascend by number
unfoldable pub closed_walk : Table → List ℕ
closed_walk t = map (number_of t) (ring_of (steps_between t) (length (live_vertices t)))

-- closed_walk: 1, 11; no word where there is no closed walk
unfoldable pub closed_walk_result : List ℕ → Table → Result
closed_walk_result lent t = listed (closed_walk t) lent
