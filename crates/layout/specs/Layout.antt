-- How a table's content lies in its words, over the member limit L. Assumes nothing.
use Rattle.std.specs.Prelude.{List, [], ◌∷◌, ◌++◌, ℕ, ◌+◌, ◌*◌, length, get_or, take, drop}
use Rattle.lists.specs.Lists.{tab, flat, pad}
use Rattle.layout.specs.Content.{Vertex, Hyperedge, Table}

-- at most 256 live vertices and 192 live hyperedges, and the member limit
abbrev pub vertex_limit : ℕ
vertex_limit = 256

abbrev pub hyperedge_limit : ℕ
hyperedge_limit = 192

abbrev pub limit : ℕ
limit = 32

-- a vertex record is of 2 words: number, weight
abbrev pub vertex_size : ℕ
vertex_size = 2

-- a hyperedge record is of 3 + L words: number, weight, count, L members
abbrev pub record_size : ℕ → ℕ
record_size L = 3 + L

-- the vertex records follow words 0 to 3, and the hyperedge records follow them
abbrev pub vertices_at : ℕ
vertices_at = 4

abbrev pub hyperedges_at : ℕ
hyperedges_at = vertices_at + vertex_limit * vertex_size

-- a table is of exactly this many words: words 0 to 3, 256 vertex records, 192 hyperedge records
abbrev pub size : ℕ → ℕ
size L = hyperedges_at + hyperedge_limit * record_size L

-- where record i of each kind begins
abbrev pub vertex_word : ℕ → ℕ
vertex_word i = vertices_at + i * vertex_size

abbrev pub hyperedge_word : ℕ → ℕ → ℕ
hyperedge_word L j = hyperedges_at + j * record_size L

-- ---- from words to content

-- words 0 to 3: next vertex number, next hyperedge number, live vertices n, live hyperedges m
abbrev pub next_vertex_in : List ℕ → ℕ
next_vertex_in ws = get_or ws 0 0

abbrev pub next_hyperedge_in : List ℕ → ℕ
next_hyperedge_in ws = get_or ws 1 0

abbrev pub vertex_count : List ℕ → ℕ
vertex_count ws = get_or ws 2 0

abbrev pub hyperedge_count : List ℕ → ℕ
hyperedge_count ws = get_or ws 3 0

-- vertex record i: number, weight
abbrev pub vertex_at : List ℕ → ℕ → Vertex
vertex_at ws i = record { number = get_or ws (vertex_word i) 0; weight = get_or ws (vertex_word i + 1) 0 }

-- the count of hyperedge record j
abbrev pub count_at : ℕ → List ℕ → ℕ → ℕ
count_at L ws j = get_or ws (hyperedge_word L j + 2) 0

-- a hyperedge's members: a part of the words that starts in their middle
abbrev pub members_at : ℕ → List ℕ → ℕ → List ℕ
members_at L ws j = take (count_at L ws j) (drop (hyperedge_word L j + 3) ws)

-- hyperedge record j: number, weight, members
abbrev pub hyperedge_at : ℕ → List ℕ → ℕ → Hyperedge
hyperedge_at L ws j = record {
  number = get_or ws (hyperedge_word L j) 0;
  weight = get_or ws (hyperedge_word L j + 1) 0;
  members = members_at L ws j;
}

-- the first n and m records are used
abbrev pub read_vertices : List ℕ → List Vertex
read_vertices ws = tab (vertex_at ws) (vertex_count ws)

abbrev pub read_hyperedges : ℕ → List ℕ → List Hyperedge
read_hyperedges L ws = tab (hyperedge_at L ws) (hyperedge_count ws)

-- the content that stands in the words
abbrev pub read : ℕ → List ℕ → Table
read L ws = record {
  next_vertex = next_vertex_in ws;
  next_hyperedge = next_hyperedge_in ws;
  vertices = read_vertices ws;
  hyperedges = read_hyperedges L ws;
}

-- ---- from content to words

-- a vertex record: number, weight
abbrev pub vertex_words : Vertex → List ℕ
vertex_words v = v.number ∷ v.weight ∷ []

-- a hyperedge record: number, weight, count, members; every unused word is 0
abbrev pub hyperedge_words : ℕ → Hyperedge → List ℕ
hyperedge_words L e = e.number ∷ e.weight ∷ length e.members ∷ pad L e.members

-- the words of a content: words 0 to 3, the vertex records, the hyperedge records; every unused word is 0
unfoldable pub words : ℕ → Table → List ℕ
words L t =
    (t.next_vertex ∷ t.next_hyperedge ∷ length t.vertices ∷ length t.hyperedges ∷ [])
    ++ pad (vertex_limit * vertex_size) (flat vertex_words t.vertices)
    ++ pad (hyperedge_limit * record_size L) (flat (hyperedge_words L) t.hyperedges)
