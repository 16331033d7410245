-- What inner functions are stated with: the parts of the test of a table, the first of a list that is not live, a list's step by its place.
-- Assumes nothing.
use Rattle.std.specs.Prelude.{◌≡◌, true, cond, List, [], ◌∷◌, ℕ, ◌+◌, ◌*◌, ◌≤◌, ◌<◌, zero, suc, length, get_or, Option, Some, None}
use Rattle.lists.specs.Tests.{◌and◌, every}
use Rattle.lists.specs.Lists.{tab, Ascending}
use Rattle.layout.specs.Content.{valid, is_live}
use Rattle.layout.specs.Layout.{vertex_limit, hyperedge_limit, vertex_size, record_size, vertices_at, hyperedges_at, size, vertex_word, next_vertex_in, vertex_count, hyperedge_count, count_at, read}
use Rattle.layout.specs.WellFormed.{record_shaped, unused_vertices, unused_hyperedges}
use Rattle.layout.specs.Steps.{Step}

-- what `shaped` says, part by part
pub record Shaped (L : ℕ) (ws : List ℕ) : Type 0 where
  pub sized : length ws ≡ size L
  pub vertices-le : vertex_count ws ≤ vertex_limit
  pub hyperedges-le : hyperedge_count ws ≤ hyperedge_limit
  pub vertices-rest : unused_vertices ws ≡ true
  pub hyperedges-rest : unused_hyperedges L ws ≡ true
  pub records : every (record_shaped L ws) (hyperedge_count ws) ≡ true

-- the words at base, base + step, .., n of them
abbrev pub column : List ℕ → ℕ → ℕ → ℕ → List ℕ
column ws base step n = tab (λ i. get_or ws (base + i * step) 0) n

-- the numbers of the live vertices, and of the live hyperedges, as they stand in the words
abbrev pub vertex_column : List ℕ → List ℕ
vertex_column ws = column ws vertices_at vertex_size (vertex_count ws)

abbrev pub hyperedge_column : ℕ → List ℕ → List ℕ
hyperedge_column L ws = column ws hyperedges_at (record_size L) (hyperedge_count ws)

-- what `well_formed` says, part by part
pub record Formed (L : ℕ) (ws : List ℕ) : Type 0 where
  pub shape : Shaped L ws
  pub counts : (j : ℕ) → j < hyperedge_count ws → count_at L ws j ≤ L
  pub vertices-ascend : Ascending (vertex_column ws)
  pub hyperedges-ascend : Ascending (hyperedge_column L ws)
  pub vertices-below : (i : ℕ) → i < vertex_count ws → get_or ws (vertex_word i) 0 < next_vertex_in ws
  pub content : valid (read L ws) ≡ true

-- the place of the first of the list that is not live, counted from i
unfoldable pub first_missing_from : ℕ → List ℕ → List ℕ → Option ℕ
first_missing_from i live [] = None
first_missing_from i live (x ∷ xs) = cond (is_live live x) (first_missing_from (suc i) live xs) (Some i)

unfoldable pub first_missing : List ℕ → List ℕ → Option ℕ
first_missing live xs = first_missing_from zero live xs

-- the step at place i of a list
abbrev pub step_at : List ℕ → ℕ → Step
step_at ms i = record { from = get_or ms i 0; to = get_or ms (i + 1) 0 }
