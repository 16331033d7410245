-- Removals of vertices and hyperedges, one call after the other, and the table that a list of them leaves. Assumes nothing.
use Rattle.std.specs.Prelude.{Bool, false, not, List, [], ◌∷◌, map, ℕ, eqb}
use Rattle.lists.specs.Lists.{any, filter}
use Rattle.layout.specs.Content.{Vertex, Hyperedge, Table}
use Rattle.layout.specs.Answers.{Result, on_formed}
use Rattle.edits.specs.Edits.{has_members}
use Rattle.edits.specs.Results.{remove_vertex_result, remove_hyperedge_result}

-- a removal of a vertex or of a hyperedge, by its number
pub data Removal : Type 0 where
  vertex : ℕ → Removal
  hyperedge : ℕ → Removal

-- ---- the calls

-- what one call answers and leaves
unfoldable pub removal : Removal → List ℕ → Result
removal (vertex v) ws = on_formed ws ws (remove_vertex_result v ws)
removal (hyperedge x) ws = on_formed ws ws (remove_hyperedge_result x ws)

-- the words after one call
unfoldable pub remove : Removal → List ℕ → List ℕ
remove r ws = (removal r ws).lent

-- the words after one call for each of the list
unfoldable pub remove_all : List Removal → List ℕ → List ℕ
remove_all [] ws = ws
remove_all (r ∷ rs) ws = remove_all rs (remove r ws)

-- ---- what they leave

-- the removal names vertex v
unfoldable pub is_vertex : ℕ → Removal → Bool
is_vertex v (vertex w) = eqb v w
is_vertex v (hyperedge x) = false

-- the removal names hyperedge x
unfoldable pub is_hyperedge : ℕ → Removal → Bool
is_hyperedge x (vertex v) = false
is_hyperedge x (hyperedge y) = eqb x y

-- no removal of the list names the vertex, or the hyperedge
unfoldable pub stays_vertex : List Removal → ℕ → Bool
stays_vertex rs v = not (any (is_vertex v) rs)

unfoldable pub stays_hyperedge : List Removal → ℕ → Bool
stays_hyperedge rs x = not (any (is_hyperedge x) rs)

-- the same of a vertex, and of a hyperedge, of the table
unfoldable pub kept_vertex : List Removal → Vertex → Bool
kept_vertex rs v = stays_vertex rs v.number

unfoldable pub kept_hyperedge : List Removal → Hyperedge → Bool
kept_hyperedge rs e = stays_hyperedge rs e.number

-- the hyperedge, its list without the named vertices
unfoldable pub thinned : List Removal → Hyperedge → Hyperedge
thinned rs e = record { number = e.number; weight = e.weight; members = filter (stays_vertex rs) e.members }

-- the named vertices and hyperedges gone, each list that stays the old one without the named vertices, emptied lists gone, all else kept
unfoldable pub withdrawn : List Removal → Table → Table
withdrawn rs t = record {
  next_vertex = t.next_vertex;
  next_hyperedge = t.next_hyperedge;
  vertices = filter (kept_vertex rs) t.vertices;
  hyperedges = filter has_members (map (thinned rs) (filter (kept_hyperedge rs) t.hyperedges));
}
