-- What the steps of a withdrawal leave: of the lists the members that have no mark, of the hyperedge records those that have none. Assumes nothing.
use Rattle.std.specs.Prelude.{Bool, List, ℕ}
use Rattle.lists.specs.Lists.{filter}
use Rattle.layout.specs.Content.{Hyperedge, Table, live_vertices}
use Rattle.layout.specs.Layout.{limit, hyperedge_count, hyperedge_at, next_vertex_in, next_hyperedge_in, read_vertices, read}
use Rattle.edits.specs.Rewriting.{Rewritten}
use Rattle.edits.specs.Removing.{sifted}
use Rattle.sift_vertices.specs.Unmarked.{unmarked}
use Rattle.withdraw_marked.specs.Sparing.{spared}

-- the member has no mark, by the marks of the vertex records of ws
abbrev pub member_spared : List Bool → List ℕ → ℕ → Bool
member_spared marks ws x = spared marks (live_vertices (read limit ws)) x

-- the members that have none
abbrev pub members_spared : List Bool → List ℕ → List ℕ → List ℕ
members_spared marks ws ms = filter (member_spared marks ws) ms

-- what is left of the first j hyperedges of ws
abbrev pub hyperedges_left : List Bool → List Bool → List ℕ → ℕ → List Hyperedge
hyperedges_left vertices hyperedges ws j = sifted (member_spared vertices ws) (unmarked (hyperedge_at limit ws) hyperedges j)

-- after j hyperedge records of ws: what is left of them, k records, stands in s
abbrev pub HyperedgesSifted : List Bool → List Bool → List ℕ → ℕ → ℕ → List ℕ → Type 0
HyperedgesSifted vertices hyperedges ws j k s = Rewritten limit ws (hyperedges_left vertices hyperedges ws j) j k s

-- the table of ws with the hyperedges that are left, and all its vertices
unfoldable pub sifted_table : List Bool → List Bool → List ℕ → Table
sifted_table vertices hyperedges ws = record {
  next_vertex = next_vertex_in ws;
  next_hyperedge = next_hyperedge_in ws;
  vertices = read_vertices ws;
  hyperedges = hyperedges_left vertices hyperedges ws (hyperedge_count ws);
}
