-- What the code's arrays hold of a table: the weights by place, and the matrix of choices by record. Assumes nothing.
use Rattle.std.specs.Prelude.{◌≡◌, Bool, cond, List, ℕ, suc, ◌*◌, ◌≤◌, ◌<◌, ltb, length, get_or}
use Rattle.lists.specs.Tests.{◌and◌}
use Rattle.lists.specs.Lists.{facing}
use Rattle.layout.specs.Content.{Table}
use Rattle.layout.specs.Layout.{limit, vertex_limit, vertex_count, read}
use Rattle.steps.specs.Matrices.{number_of}
use Rattle.steps.specs.Inner.{cell}
use Rattle.paths.specs.Paths.{weight_by, choice_among, choice}

-- the weights of the first k hyperedges, by place; 0 at every other place
pub record Weights (t : Table) (k : ℕ) (w : List ℕ) : Type 0 where
  pub sized : length w ≡ vertex_limit
  pub first : (i : ℕ) → i < k → get_or w (suc i) 0 ≡ weight_by t (suc i)
  pub rest : (i : ℕ) → k ≤ i → get_or w (suc i) 0 ≡ 0
  pub none : get_or w 0 0 ≡ 0

-- of the records below n, the matrix has the value of every pair, and 0 of every other pair
pub record Values (f : ℕ → ℕ → ℕ) (n : ℕ) (c : List ℕ) : Type 0 where
  pub sized : length c ≡ vertex_limit * vertex_limit
  pub entry : (i j : ℕ) → i < vertex_limit → j < vertex_limit → get_or c (cell i j) 0 ≡ cond (ltb i n and ltb j n) (f i j) 0

-- values of numbers, said of the records
abbrev pub among : Table → (ℕ → ℕ → ℕ) → ℕ → ℕ → ℕ
among t f i j = f (number_of t i) (number_of t j)

-- the choices among the first k hyperedges
abbrev pub Choosing : Bool → List ℕ → ℕ → List ℕ → Type 0
Choosing back ws k c = Values (among (read limit ws) (facing back (choice_among (read limit ws) k))) (vertex_count ws) c

-- the choices
abbrev pub Chosen : Bool → List ℕ → List ℕ → Type 0
Chosen back ws c = Values (among (read limit ws) (facing back (choice (read limit ws)))) (vertex_count ws) c
