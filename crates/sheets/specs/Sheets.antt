-- The sheets to check by: a table of cases, each a table, a query and the rules' answer. Assumes nothing.
use Rattle.std.specs.Prelude.{◌≡◌, List, [], ◌∷◌, ℕ, length, replicate, Ok, Err}
use Rattle.layout.specs.declared.Refusal.TheVariants.{NoMembers, ClosedWalk}
use Rattle.layout.specs.Content.{Vertex, Hyperedge, vertex_of, hyperedge_of, Table}
use Rattle.layout.specs.Layout.{limit, size, words}
use Rattle.layout.specs.Answers.{Result, result_of, on_formed}
use Rattle.edits.specs.Results.{update_result, remove_vertex_result}
use Rattle.lookups.specs.Results.{connecting_result}
use Rattle.structural.specs.Sort.{sort_result}
use Rattle.structural.specs.Components.{strong_components_result}
use Rattle.structural.specs.Closure.{closure_result}
use Rattle.cut.specs.Cut.{cut_vertices_result}
use Rattle.properties.specs.Results.{inclusions_result, nestedness_result}
use Rattle.paths.specs.Paths.{no_number, pair_result}
use Rattle.frames.specs.Frames.{frame_text}
use Rattle.frames.specs.Reading.{read_result}

-- ---- tables

-- a vertex that weighs its number
abbrev pub vertex : ℕ → Vertex
vertex n = vertex_of n n

-- a table of such vertices and hyperedges
abbrev pub table : List Vertex → List Hyperedge → Table
table vs es = record { next_vertex = 5; next_hyperedge = 3; vertices = vs; hyperedges = es }

-- vertices 0 to 4; hyperedges 0: [0,1,2] weight 4, 1: [0,3] weight 1, 2: [3,2] weight 2
abbrev pub G : Table
G = table (vertex 0 ∷ vertex 1 ∷ vertex 2 ∷ vertex 3 ∷ vertex 4 ∷ [])
    (hyperedge_of 0 4 (0 ∷ 1 ∷ 2 ∷ []) ∷ hyperedge_of 1 1 (0 ∷ 3 ∷ []) ∷ hyperedge_of 2 2 (3 ∷ 2 ∷ []) ∷ [])

-- vertices 0 to 2; hyperedges [0,1], [0,1,0], [0,1,2]
abbrev pub K : Table
K = table (vertex 0 ∷ vertex 1 ∷ vertex 2 ∷ [])
    (hyperedge_of 0 0 (0 ∷ 1 ∷ []) ∷ hyperedge_of 1 0 (0 ∷ 1 ∷ 0 ∷ []) ∷ hyperedge_of 2 0 (0 ∷ 1 ∷ 2 ∷ []) ∷ [])

-- the list [0,0]
abbrev pub Loop : Table
Loop = table (vertex 0 ∷ []) (hyperedge_of 0 0 (0 ∷ 0 ∷ []) ∷ [])

-- only [0,1,0,1]
abbrev pub Repeated : Table
Repeated = table (vertex 0 ∷ vertex 1 ∷ []) (hyperedge_of 0 0 (0 ∷ 1 ∷ 0 ∷ 1 ∷ []) ∷ [])

-- [0,1] and [1,2]; [0,1,2] alone
abbrev pub Two : Table
Two = table (vertex 0 ∷ vertex 1 ∷ vertex 2 ∷ []) (hyperedge_of 0 0 (0 ∷ 1 ∷ []) ∷ hyperedge_of 1 0 (1 ∷ 2 ∷ []) ∷ [])

abbrev pub One : Table
One = table (vertex 0 ∷ vertex 1 ∷ vertex 2 ∷ []) (hyperedge_of 0 0 (0 ∷ 1 ∷ 2 ∷ []) ∷ [])

-- G without 0, and without 0 and 3
abbrev pub WithoutZero : Table
WithoutZero = table (vertex 1 ∷ vertex 2 ∷ vertex 3 ∷ vertex 4 ∷ [])
    (hyperedge_of 0 4 (1 ∷ 2 ∷ []) ∷ hyperedge_of 1 1 (3 ∷ []) ∷ hyperedge_of 2 2 (3 ∷ 2 ∷ []) ∷ [])

abbrev pub Left : Table
Left = table (vertex 1 ∷ vertex 2 ∷ vertex 4 ∷ []) (hyperedge_of 0 4 (1 ∷ 2 ∷ []) ∷ hyperedge_of 2 2 (2 ∷ []) ∷ [])

-- ---- cases

-- where a case's table comes from: its content is given, or the frame text that it is read from
pub data Given : Type 0 where
  held : Table → Given
  text : List ℕ → Given

-- a table, a query and the rules' answer
pub record Case : Type 0 where
  pub given : Given
  pub query : Table → Result
  pub answer : Result

-- the table's words: those of the content, or those that read_frames leaves in a lent slice
abbrev pub table_in : Given → List ℕ → List ℕ
table_in (held t) slice = words limit t
table_in (text bytes) slice = (read_result bytes slice).lent

-- for each case: called on the words of its table, the query gives the rules' answer. A text is read whatever stood in the slice
abbrev pub Hold : List Case → Type 0
Hold [] = Unit {0}
Hold (c ∷ cs) = ((slice lent : List ℕ) → length slice ≡ size limit → on_formed (table_in c.given slice) lent c.query ≡ c.answer) × Hold cs

-- a lent slice of n words
abbrev pub lent : ℕ → List ℕ
lent n = replicate n 0

-- done, with a listing that fills the lent slice
abbrev pub gives : List ℕ → Result
gives xs = result_of (Ok (length xs)) xs

-- P1: G sorted is 0 1 3 2 4
abbrev pub P1 : Case
P1 = record { given = held G; query = sort_result (lent 5); answer = gives (0 ∷ 1 ∷ 3 ∷ 2 ∷ 4 ∷ []) }

-- P2: G path 0 to 2, cost 3: (0,none) (3,1) (2,2)
abbrev pub P2 : Case
P2 = record { given = held G; query = pair_result 0 2 (lent 9); answer = gives (3 ∷ 0 ∷ 3 ∷ 0 ∷ no_number ∷ 3 ∷ 1 ∷ 2 ∷ 2 ∷ []) }

-- P3: G path 0 to 4: 0, no entries; 0 to 0: 0, (0,none)
abbrev pub P3-far : Case
P3-far = record { given = held G; query = pair_result 0 4 (lent 3); answer = gives (0 ∷ 0 ∷ 0 ∷ []) }

abbrev pub P3-same : Case
P3-same = record { given = held G; query = pair_result 0 0 (lent 5); answer = gives (0 ∷ 0 ∷ 1 ∷ 0 ∷ no_number ∷ []) }

-- P4: G closure is 0-1 0-2 0-3 1-2 3-2
abbrev pub P4 : Case
P4 = record { given = held G; query = closure_result (lent 10); answer = gives (0 ∷ 1 ∷ 0 ∷ 2 ∷ 0 ∷ 3 ∷ 1 ∷ 2 ∷ 3 ∷ 2 ∷ []) }

-- P5: G strong is [4] [0] [1] [3] [2]
abbrev pub P5 : Case
P5 = record { given = held G; query = strong_components_result (lent 10); answer = gives (1 ∷ 4 ∷ 1 ∷ 0 ∷ 1 ∷ 1 ∷ 1 ∷ 3 ∷ 1 ∷ 2 ∷ []) }

-- P6: G, remove 0 and 3: [1,2] and [2] left, as hyperedges 0 and 2
abbrev pub P6-first : Case
P6-first = record { given = held G; query = remove_vertex_result 0 (words limit G); answer = result_of (Ok 0) (words limit WithoutZero) }

abbrev pub P6-second : Case
P6-second = record { given = held WithoutZero; query = remove_vertex_result 3 (words limit WithoutZero); answer = result_of (Ok 0) (words limit Left) }

-- P7: list [0,0], sort: 9; no add takes such a list, so its frame text is read
abbrev pub P7 : Case
P7 = record { given = text (frame_text Loop); query = sort_result (lent 1); answer = result_of (Err ClosedWalk) (lent 1) }

-- P8: only [0,1,0,1], connecting 0 to 1: the hyperedge twice
abbrev pub P8 : Case
P8 = record { given = held Repeated; query = connecting_result 0 1 (lent 2); answer = gives (0 ∷ 0 ∷ []) }

-- P9: K inclusions are 0-2 1-2
abbrev pub P9 : Case
P9 = record { given = held K; query = inclusions_result (lent 4); answer = gives (0 ∷ 2 ∷ 1 ∷ 2 ∷ []) }

-- P10: K nestedness is 2,2,2 and 3,0,1
abbrev pub P10 : Case
P10 = record { given = held K; query = nestedness_result (lent 6); answer = gives (2 ∷ 2 ∷ 2 ∷ 3 ∷ 0 ∷ 1 ∷ []) }

-- P11: [0,1] and [1,2], cut: 1; with [0,1,2] alone: none
abbrev pub P11-two : Case
P11-two = record { given = held Two; query = cut_vertices_result (lent 1); answer = gives (1 ∷ []) }

abbrev pub P11-one : Case
P11-one = record { given = held One; query = cut_vertices_result (lent 0); answer = gives [] }

-- P12: update, empty list, unknown hyperedge: 2
abbrev pub P12 : Case
P12 = record { given = held G; query = update_result 9 [] (words limit G); answer = result_of (Err (NoMembers 9)) (words limit G) }

-- P1 to P12
abbrev pub sheets : List Case
sheets = P1 ∷ P2 ∷ P3-far ∷ P3-same ∷ P4 ∷ P5 ∷ P6-first ∷ P6-second ∷ P7 ∷ P8 ∷ P9 ∷ P10 ∷ P11-two ∷ P11-one ∷ P12 ∷ []
