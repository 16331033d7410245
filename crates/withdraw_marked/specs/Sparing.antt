-- A table without the records that have a mark. Assumes nothing.
use Rattle.std.specs.Prelude.{Bool, false, not, List, ℕ, Option, Some, None}
use Rattle.lists.specs.Lists.{filter}
use Rattle.layout.specs.Content.{Vertex, Hyperedge, Table, live_vertices, live_hyperedges, position}
use Rattle.edits.specs.Removing.{sifted}
use Rattle.marks.specs.Marks.{is_marked}

-- a mark at the place that a search found
abbrev pub mark_at : List Bool → Option ℕ → Bool
mark_at marks (Some k) = is_marked marks k
mark_at marks None = false

-- the number has no mark: its record has none, or it is not among the numbers
unfoldable pub spared : List Bool → List ℕ → ℕ → Bool
spared marks numbers x = not (mark_at marks (position x numbers))

module _ (p h : ℕ → Bool) where
  -- a vertex that p spares, and a hyperedge that h spares
  unfoldable pub spared_vertex : Vertex → Bool
  spared_vertex v = p v.number

  unfoldable pub spared_hyperedge : Hyperedge → Bool
  spared_hyperedge e = h e.number

  -- what is spared of a table: of each list the members that p spares; emptied lists are dropped
  unfoldable pub spared_of : Table → Table
  spared_of t = record {
    next_vertex = t.next_vertex;
    next_hyperedge = t.next_hyperedge;
    vertices = filter spared_vertex t.vertices;
    hyperedges = sifted p (filter spared_hyperedge t.hyperedges);
  }

-- the table without what is marked
unfoldable pub unmarked_of : List Bool → List Bool → Table → Table
unmarked_of vertices hyperedges t = spared_of (spared vertices (live_vertices t)) (spared hyperedges (live_hyperedges t)) t
