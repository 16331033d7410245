-- Relations between vertices, and the same said of the vertices' records. Assumes nothing.
use Rattle.std.specs.Prelude.{◌≡◌, Bool, true, ◌||◌, ℕ, get_or}
use Rattle.lists.specs.Tests.{◌and◌}
use Rattle.lists.specs.Lists.{any}
use Rattle.layout.specs.Content.{Hyperedge, Table, live_vertices, lists}
use Rattle.layout.specs.Steps.{has_step}

-- a step from x to y or from y to x
unfoldable pub undirected : Table → ℕ → ℕ → Bool
undirected t x y = has_step t x y || has_step t y x

-- the hyperedge lists x and y
unfoldable pub lists_both : ℕ → ℕ → Hyperedge → Bool
lists_both x y e = lists x e and lists y e

-- co-membership: some hyperedge lists x and y
unfoldable pub together : Table → ℕ → ℕ → Bool
together t x y = any (lists_both x y) t.hyperedges

-- a relation given by a test
abbrev pub Related : (ℕ → ℕ → Bool) → ℕ → ℕ → Type 0
Related R x y = R x y ≡ true

-- co-membership as a relation
abbrev pub TogetherIn : Table → ℕ → ℕ → Type 0
TogetherIn t = Related (together t)

-- the number of the vertex in record k
abbrev pub number_of : Table → ℕ → ℕ
number_of t k = get_or (live_vertices t) k 0

-- a relation between numbers, said of the records
abbrev pub between : Table → (ℕ → ℕ → Bool) → ℕ → ℕ → Bool
between t R i j = R (number_of t i) (number_of t j)

-- steps, and steps without direction, said of the records
abbrev pub steps_between : Table → ℕ → ℕ → Bool
steps_between t = between t (has_step t)

abbrev pub undirected_between : Table → ℕ → ℕ → Bool
undirected_between t = between t (undirected t)
