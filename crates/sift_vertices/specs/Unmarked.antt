-- The records that have no mark, and the vertex records among them written one after the other. Assumes nothing.
use Rattle.std.specs.Prelude.{Bool, not, List, map, ℕ, ◌+◌}
use Rattle.lists.specs.Tests.{chosen}
use Rattle.layout.specs.Layout.{vertex_size, vertices_at, vertex_at, vertex_words}
use Rattle.edits.specs.Rewriting.{Relaid}
use Rattle.marks.specs.Marks.{is_marked}

-- record k has no mark
abbrev pub is_unmarked : List Bool → ℕ → Bool
is_unmarked marks k = not (is_marked marks k)

-- of f 0, .., f (n - 1) those at places that have none
unfoldable pub unmarked : {A : Type 0} → (ℕ → A) → List Bool → ℕ → List A
unmarked f marks n = map f (chosen (is_unmarked marks) n)

-- after i vertex records of ws: those that have no mark, k of them, stand in s, where d stood
abbrev pub VerticesSifted : List Bool → List ℕ → List ℕ → ℕ → ℕ → List ℕ → Type 0
VerticesSifted marks ws d i k s = Relaid vertex_words vertices_at vertex_size d (unmarked (vertex_at ws) marks i) i k s

-- a turn at vertex record i, whatever stood there before the first turn: from k records in s to k' in s'
abbrev pub VertexTurn : List Bool → List ℕ → ℕ → ℕ → List ℕ → ℕ → List ℕ → Type 0
VertexTurn marks ws i k s k' s' = (d : List ℕ) → VerticesSifted marks ws d i k s → VerticesSifted marks ws d (i + 1) k' s'
