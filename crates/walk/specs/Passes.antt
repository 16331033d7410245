-- What the passes over the records find. Assumes nothing.
use Rattle.std.specs.Prelude.{◌≡◌, ℕ, ◌-◌, ◌*◌, ◌<◌, ◌≤◌, Bool, false, cond, not, List, [], ◌∷◌, ◌++◌, map, length, take, slice_index, slice_index_or, Float}
use Rattle.lists.specs.Tests.{chosen}
use Rattle.lists.specs.Lists.{memb}
use Rattle.layout.specs.Content.{Hyperedge}
use Rattle.layout.specs.Layout.{limit, vertex_limit, vertex_count, hyperedge_count, members_at, hyperedge_at, read}
use Rattle.steps.specs.Matrices.{number_of}
use Rattle.steps.specs.Inner.{cell}
use Rattle.walk.specs.Walk.{sample, total_weight, first_greater}

-- no weight is greater
abbrev pub largest_word : ℕ
largest_word = 4294967295

-- ---- the first places of the members

-- what stands at place p stands at no place before
unfoldable pub is_first : List ℕ → ℕ → Bool
is_first ms p = not (memb (slice_index ms p) (take p ms))

-- the marks say which places are first ones: all places of the first k records, and the first p places of record k
pub record FirstsMarked (ws : List ℕ) (k p : ℕ) (firsts : List Bool) : Type 0 where
  pub sized : length firsts ≡ vertex_limit * vertex_limit
  pub before : (j q : ℕ) → j < k → q < length (members_at limit ws j) → slice_index_or firsts (cell j q) false ≡ is_first (members_at limit ws j) q
  pub here : (q : ℕ) → q < p → slice_index_or firsts (cell k q) false ≡ is_first (members_at limit ws k) q

-- all places of all records are marked so
abbrev pub Firsts : List ℕ → List Bool → Type 0
Firsts ws firsts = FirstsMarked ws (hyperedge_count ws) 0 firsts

-- ---- the records that list a vertex

-- record j lists v
abbrev pub lists_at : List ℕ → ℕ → ℕ → Bool
lists_at ws v j = memb v (members_at limit ws j)

-- the places of those of the first k records that list the vertex of record i, ascending
unfoldable pub listers : List ℕ → ℕ → ℕ → List ℕ
listers ws k i = chosen (lists_at ws (number_of (read limit ws) i)) k

-- the same with record k, where the vertex is among its first p members
unfoldable pub entering : List ℕ → ℕ → ℕ → ℕ → List ℕ
entering ws k p i = cond (memb (number_of (read limit ws) i) (take p (members_at limit ws k))) (listers ws k i ++ (k ∷ [])) (listers ws k i)

-- row i, of the first n, begins with the numbers R i, as many as its count says
pub record Rows (n : ℕ) (R : ℕ → List ℕ) (rows counts : List ℕ) : Type 0 where
  pub sized : length rows ≡ vertex_limit * vertex_limit
  pub counted : length counts ≡ vertex_limit
  pub fits : (i : ℕ) → i < n → length (R i) ≤ vertex_limit
  pub many : (i : ℕ) → i < n → slice_index counts i ≡ length (R i)
  pub entry : (i q : ℕ) → i < n → q < length (R i) → slice_index rows (cell i q) ≡ slice_index (R i) q

-- the rows while the first p members of record k are entered
abbrev pub Entering : List ℕ → ℕ → ℕ → List ℕ → List ℕ → Type 0
Entering ws k p = Rows (vertex_count ws) (entering ws k p)

-- the rows where the first k records are entered
abbrev pub Listers : List ℕ → ℕ → List ℕ → List ℕ → Type 0
Listers ws k = Rows (vertex_count ws) (listers ws k)

-- the places of all records that list the vertex of record i
abbrev pub listers_of : List ℕ → ℕ → List ℕ
listers_of ws i = listers ws (hyperedge_count ws) i

-- what a walk goes by: the first places, and the rows of the records that list each vertex
pub record Prepared (ws : List ℕ) (firsts : List Bool) (rows counts : List ℕ) : Type 0 where
  pub first : Firsts ws firsts
  pub listed : Listers ws (hyperedge_count ws) rows counts

-- ---- the draw among the records at the places js

-- the records themselves
abbrev pub records_at : List ℕ → List ℕ → List Hyperedge
records_at ws js = map (hyperedge_at limit ws) js

-- record j is the first of them whose running sum is greater than x, else the last
pub record Greater (ws js : List ℕ) (x : Float) (j : ℕ) : Type 0 where
  pub within : j < hyperedge_count ws
  pub taken : hyperedge_at limit ws j ≡ first_greater x (hyperedge_at limit ws (slice_index js (length js - 1))) 0 (records_at ws js)

-- record j is what the draw takes of them
abbrev pub TakenBy : List ℕ → List ℕ → ℕ → ℕ → Type 0
TakenBy ws js draw j = Greater ws js (sample draw (total_weight (records_at ws js))) j
