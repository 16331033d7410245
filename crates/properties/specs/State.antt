-- What inner functions hold and leave: marks, member sets, sizes, and words written from the front. Assumes nothing.
use Rattle.std.specs.Prelude.{◌≡◌, Bool, true, cond, List, [], ℕ, ◌-◌, ◌*◌, ◌<◌, eqb, length, get_or, take, drop}
use Rattle.lists.specs.Tests.{◌and◌}
use Rattle.lists.specs.Lists.{memb}
use Rattle.layout.specs.Content.{Hyperedge, Table}
use Rattle.layout.specs.Layout.{limit, vertex_limit, vertex_count, hyperedge_count, hyperedge_at, read}
use Rattle.marks.specs.Marks.{is_marked}
use Rattle.steps.specs.Inner.{cell}
use Rattle.properties.specs.Properties.{member_set, set_size, is_included, is_size, row}

-- a list without its first and its last members, so many of each
abbrev pub trimmed : ℕ → ℕ → List ℕ → List ℕ
trimmed front back ms = take (length ms - back - front) (drop front ms)

-- what is left of the list has v
unfoldable pub in_trimmed : ℕ → ℕ → ℕ → Hyperedge → Bool
in_trimmed front back v e = memb v (trimmed front back e.members)

-- ---- the member sets of the hyperedge records

-- row a of a matrix of marks
abbrev pub row_of : List Bool → ℕ → ℕ → Bool
row_of m a i = is_marked m (cell a i)

-- the marks are those of the members of hyperedge record j
abbrev pub SetOf : List ℕ → ℕ → (ℕ → Bool) → Type 0
SetOf ws j p = (i : ℕ) → i < vertex_count ws → p i ≡ member_set (read limit ws) (hyperedge_at limit ws j) i

-- the first k places of row j have the marks, and the other rows are as they were
pub record RowPut (marks : List Bool) (j : ℕ) (old : List Bool) (k : ℕ) (new : List Bool) : Type 0 where
  pub sized : length new ≡ length old
  pub here : (i : ℕ) → i < k → is_marked new (cell j i) ≡ is_marked marks i
  pub rest : (r i : ℕ) → i < vertex_limit → (r ≡ j → ⊥) → is_marked new (cell r i) ≡ is_marked old (cell r i)

-- the rows of the first k hyperedge records have the marks of their members, and sizes their counts
pub record Sets (ws : List ℕ) (k : ℕ) (m : List Bool) (sizes : List ℕ) : Type 0 where
  pub marks-sized : length m ≡ vertex_limit * vertex_limit
  pub sizes-sized : length sizes ≡ vertex_limit
  pub marks : (j : ℕ) → j < k → SetOf ws j (row_of m j)
  pub counts : (j : ℕ) → j < k → get_or sizes j 0 ≡ set_size (read limit ws) (hyperedge_at limit ws j)

-- ---- the sizes

-- the hyperedge records that are included, among the first k
pub record Including (ws : List ℕ) (k : ℕ) (inc : List Bool) : Type 0 where
  pub sized : length inc ≡ vertex_limit
  pub each : (j : ℕ) → j < k → is_marked inc j ≡ is_included (read limit ws) (hyperedge_at limit ws j)

-- sizes has the size of each hyperedge record, all marks every one, and inc those that are included
pub record Classed (ws sizes : List ℕ) (all inc : List Bool) : Type 0 where
  pub counts : (j : ℕ) → j < hyperedge_count ws → get_or sizes j 0 ≡ set_size (read limit ws) (hyperedge_at limit ws j)
  pub whole : (j : ℕ) → j < hyperedge_count ws → is_marked all j ≡ true
  pub included : (j : ℕ) → j < hyperedge_count ws → is_marked inc j ≡ is_included (read limit ws) (hyperedge_at limit ws j)

-- record j is marked and has the size
unfoldable pub size_at : List ℕ → List Bool → ℕ → ℕ → Bool
size_at sizes marks s j = eqb (get_or sizes j 0) s and is_marked marks j

-- the row of a size, where some hyperedge has it
unfoldable pub row_if : Table → ℕ → List ℕ
row_if t s = cond (is_size t s) (row t s) []
