-- The kinds of the records, by their first byte. Assumes nothing.
use Rattle.std.specs.Prelude.{◌≡◌, ℕ, Option, Some, None}
use Rattle.replay_tables.specs.declared.Kind.{Kind}
use Rattle.replay_tables.specs.declared.Kind.TheVariants.{AddVertex, AddHyperedge, UpdateHyperedgeVertices, RemoveVertex, RemoveHyperedge, Clear, Table, MergeVertices, End}

-- the first byte of a kind
abbrev pub byte_of : Kind → ℕ
byte_of AddVertex = 1
byte_of AddHyperedge = 2
byte_of UpdateHyperedgeVertices = 3
byte_of RemoveVertex = 4
byte_of RemoveHyperedge = 5
byte_of Clear = 6
byte_of Table = 7
byte_of MergeVertices = 9
byte_of End = 255

-- the kind of that byte, and none for a byte that is of no kind
abbrev pub is_kind : ℕ → Option Kind → Type 0
is_kind byte (Some kind) = byte ≡ byte_of kind
is_kind byte None =
    (byte ≡ 1 → ⊥) × (byte ≡ 2 → ⊥) × (byte ≡ 3 → ⊥) × (byte ≡ 4 → ⊥) × (byte ≡ 5 → ⊥)
    × (byte ≡ 6 → ⊥) × (byte ≡ 7 → ⊥) × (byte ≡ 9 → ⊥) × (byte ≡ 255 → ⊥)
