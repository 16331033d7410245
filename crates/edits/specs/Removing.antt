-- The steps of removing vertices: the lists without them, and the records without their own. Assumes nothing.
use Rattle.std.specs.Prelude.{Bool, List, map, ◌++◌, ℕ, ◌*◌, ◌-◌, length, set, take, drop}
use Rattle.lists.specs.Lists.{filter, other_than, tab, itself, flat, pad}
use Rattle.lists.specs.Inner.{shifted}
use Rattle.layout.specs.Content.{Vertex, Hyperedge, Table}
use Rattle.layout.specs.Layout.{vertex_limit, vertex_size, vertices_at, hyperedges_at, hyperedge_at, vertex_words}
use Rattle.edits.specs.Edits.{keeping, has_members}
use Rattle.edits.specs.Rewriting.{Rewritten}

-- every list with the members that p keeps, and those that are emptied dropped
unfoldable pub sifted : (ℕ → Bool) → List Hyperedge → List Hyperedge
sifted p es = filter has_members (map (keeping p) es)

-- ---- one vertex

-- the words other than v
abbrev pub other_words : ℕ → List ℕ → List ℕ
other_words v xs = filter (other_than itself v) xs

-- every list without v, and those that held it alone dropped
abbrev pub stripped : ℕ → List Hyperedge → List Hyperedge
stripped v es = sifted (other_than itself v) es

-- the same of a table
unfoldable pub strip_vertex : ℕ → Table → Table
strip_vertex v t = record {
  next_vertex = t.next_vertex;
  next_hyperedge = t.next_hyperedge;
  vertices = t.vertices;
  hyperedges = stripped v t.hyperedges;
}

-- after j records: those that are left, k of them, are written one after the other
abbrev pub Stripped : ℕ → ℕ → List ℕ → ℕ → ℕ → List ℕ → Type 0
Stripped L v ws j k s = Rewritten L ws (stripped v (tab (hyperedge_at L ws) j)) j k s

-- record i of the n vertex records taken out, and one counted less
abbrev pub vertex_taken_out : ℕ → ℕ → List ℕ → List ℕ
vertex_taken_out i n ws =
    set (take vertices_at ws
    ++ (shifted (take (vertex_limit * vertex_size) (drop vertices_at ws)) (i * vertex_size) vertex_size
    ++ drop hyperedges_at ws)) 2 (n - 1)

-- ---- the vertices that are left

-- vs as the vertex records, and counted
abbrev pub with_vertices : List Vertex → List ℕ → List ℕ
with_vertices vs ws =
    set (take vertices_at ws ++ (pad (vertex_limit * vertex_size) (flat vertex_words vs) ++ drop hyperedges_at ws)) 2 (length vs)
