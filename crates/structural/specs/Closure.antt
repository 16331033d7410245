-- The closure: pairs x, y with x not y and y reachable, sorted. Assumes nothing.
use Rattle.std.specs.Prelude.{Bool, not, List, [], ◌∷◌, ℕ, eqb}
use Rattle.lists.specs.Tests.{◌and◌}
use Rattle.lists.specs.Lists.{filter, flat}
use Rattle.layout.specs.Content.{Table, live_vertices}
use Rattle.layout.specs.Answers.{Result, listed}
use Rattle.traversal.specs.Traversal.{reachable}

-- x is not y, and y is reachable from x
unfoldable pub reaches_other : Table → ℕ → ℕ → Bool
reaches_other t x y = not (eqb x y) and reachable t x y

-- the second of each pair whose first is x, ascending
abbrev pub seconds : Table → ℕ → List ℕ
seconds t x = filter (reaches_other t x) (live_vertices t)

-- two words each
abbrev pub pair_of : ℕ → ℕ → List ℕ
pair_of x y = x ∷ y ∷ []

-- the pairs whose first is x
abbrev pub pairs_from : Table → ℕ → List ℕ
pairs_from t x = flat (pair_of x) (seconds t x)

-- all pairs, by the first and then by the second
unfoldable pub closure_of : Table → List ℕ
closure_of t = flat (pairs_from t) (live_vertices t)

-- get_transitive_closure: 1, 11
unfoldable pub closure_result : List ℕ → Table → Result
closure_result lent t = listed (closure_of t) lent
