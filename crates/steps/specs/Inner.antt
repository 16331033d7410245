-- What inner functions are stated with: the matrix of marks that holds a relation. Assumes nothing.
use Rattle.std.specs.Prelude.{◌≡◌, Bool, List, ℕ, ◌+◌, ◌*◌, ◌<◌, ltb, length, get_or}
use Rattle.lists.specs.Tests.{◌and◌, bit}
use Rattle.lists.specs.Lists.{turned}
use Rattle.layout.specs.Content.{Table}
use Rattle.layout.specs.Layout.{vertex_limit}
use Rattle.layout.specs.Steps.{has_step}
use Rattle.steps.specs.Matrices.{undirected, Related, between}

-- a step from x to y or from y to x, as a relation
abbrev pub UndirectedIn : Table → ℕ → ℕ → Type 0
UndirectedIn t = Related (undirected t)

-- steps turned round, said of the records
abbrev pub turned_between : Table → ℕ → ℕ → Bool
turned_between t = between t (turned (has_step t))

-- where the mark of i and j stands
abbrev pub cell : ℕ → ℕ → ℕ
cell i j = i * vertex_limit + j

-- of the records below n, the matrix marks exactly the pairs that the relation holds of: by 1, and every other pair by 0
pub record Holds (E : ℕ → ℕ → Bool) (n : ℕ) (m : List ℕ) : Type 0 where
  pub sized : length m ≡ vertex_limit * vertex_limit
  pub entry : (i j : ℕ) → i < vertex_limit → j < vertex_limit → get_or m (cell i j) 0 ≡ bit (ltb i n and ltb j n and E i j)
