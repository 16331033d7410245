-- The edits, as functions on a table's content. Assumes nothing.
use Rattle.std.specs.Prelude.{Bool, cond, List, [], ◌∷◌, ◌++◌, map, ℕ, ◌+◌, eqb, ltb, length}
use Rattle.lists.specs.Lists.{filter, other_than, itself}
use Rattle.layout.specs.Content.{Hyperedge, Table, vertex_number, hyperedge_number}

-- adding a vertex always makes a new one, with the next number
unfoldable pub add_vertex : ℕ → Table → Table
add_vertex w t = record {
  next_vertex = t.next_vertex + 1;
  next_hyperedge = t.next_hyperedge;
  vertices = t.vertices ++ (record { number = t.next_vertex; weight = w } ∷ []);
  hyperedges = t.hyperedges;
}

-- adding a hyperedge likewise
unfoldable pub add_hyperedge : List ℕ → ℕ → Table → Table
add_hyperedge ms w t = record {
  next_vertex = t.next_vertex;
  next_hyperedge = t.next_hyperedge + 1;
  vertices = t.vertices;
  hyperedges = t.hyperedges ++ (record { number = t.next_hyperedge; weight = w; members = ms } ∷ []);
}

-- update keeps the weight
unfoldable pub with_members : ℕ → List ℕ → Hyperedge → Hyperedge
with_members x ms e = cond (eqb e.number x) (record { number = e.number; weight = e.weight; members = ms }) e

-- the list of hyperedge x becomes ms
unfoldable pub update_hyperedge : ℕ → List ℕ → Table → Table
update_hyperedge x ms t = record {
  next_vertex = t.next_vertex;
  next_hyperedge = t.next_hyperedge;
  vertices = t.vertices;
  hyperedges = map (with_members x ms) t.hyperedges;
}

-- the list with the members that p keeps
abbrev pub keeping : (ℕ → Bool) → Hyperedge → Hyperedge
keeping p e = record { number = e.number; weight = e.weight; members = filter p e.members }

-- the list without v
unfoldable pub without : ℕ → Hyperedge → Hyperedge
without v e = keeping (other_than itself v) e

-- the list is not empty
unfoldable pub has_members : Hyperedge → Bool
has_members e = ltb 0 (length e.members)

-- the vertex gone, and filtered out of every list; lists that held it alone are dropped
unfoldable pub remove_vertex : ℕ → Table → Table
remove_vertex v t = record {
  next_vertex = t.next_vertex;
  next_hyperedge = t.next_hyperedge;
  vertices = filter (other_than vertex_number v) t.vertices;
  hyperedges = filter has_members (map (without v) t.hyperedges);
}

-- x, with w read as v
unfoldable pub read_as : ℕ → ℕ → ℕ → ℕ
read_as v w x = cond (eqb x w) v x

-- the list with each w become v
unfoldable pub renamed : ℕ → ℕ → Hyperedge → Hyperedge
renamed v w e = record { number = e.number; weight = e.weight; members = map (read_as v w) e.members }

-- each w in every list becomes v
unfoldable pub rename_vertex : ℕ → ℕ → Table → Table
rename_vertex v w t = record {
  next_vertex = t.next_vertex;
  next_hyperedge = t.next_hyperedge;
  vertices = t.vertices;
  hyperedges = map (renamed v w) t.hyperedges;
}

-- merging w into v: each w in every list becomes v, then w is removed; all else stays
unfoldable pub merge_vertices : ℕ → ℕ → Table → Table
merge_vertices v w t = remove_vertex w (rename_vertex v w t)

-- the hyperedge gone, and nothing else
unfoldable pub remove_hyperedge : ℕ → Table → Table
remove_hyperedge x t = record {
  next_vertex = t.next_vertex;
  next_hyperedge = t.next_hyperedge;
  vertices = t.vertices;
  hyperedges = filter (other_than hyperedge_number x) t.hyperedges;
}
