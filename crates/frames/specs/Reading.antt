-- Reading frame text: what stands in a text, which of its lines are good, and what a read answers and leaves. By `accepted-written`,
-- `written-accepted`, `round_trip` and `faulty-line` (frame_laws) a read accepts the texts that are `Written`, gives back the words that they were
-- written from, and names the line that is `Faulty`: who believes Frames.antt and Faulty.antt need not believe this file. Assumes nothing.
use Rattle.std.specs.Prelude.{Bool, true, cond, ◌||◌, List, ℕ, zero, suc, ◌+◌, ◌*◌, ◌-◌, eqb, leb, ltb, length, get_or, take, drop, Ok, Err}
use Rattle.lists.specs.Tests.{◌and◌}
use Rattle.lists.specs.Lists.{same_list, tab}
use Rattle.layout.specs.declared.Refusal.TheVariants.{NotWellFormed, BadText}
use Rattle.layout.specs.Content.{Vertex, Hyperedge, Table, live_vertices, members_live, vertex_of, hyperedge_of}
use Rattle.layout.specs.Layout.{vertex_limit, hyperedge_limit, limit, size, words}
use Rattle.layout.specs.WellFormed.{count_fits}
use Rattle.layout.specs.Answers.{Result, result_of}
use Rattle.frames.specs.Frames.{byte_values, head_frame, line, vertex_line, hyperedge_line, head_length, vertex_length, member_length, hyperedge_length}

-- ---- what stands in a text

-- what is no digit has a value that no digit has
abbrev pub no_value : ℕ
no_value = 256

-- the value of a digit of capital hexadecimal: 48 is 0, and 65 is A
unfoldable pub value : ℕ → ℕ
value c = cond (ltb c 48) no_value (cond (ltb c 58) (c - 48) (cond (ltb c 65) no_value (cond (ltb c 71) (c - 55) no_value)))

-- the byte whose two digits stand at place p
unfoldable pub byte_at : List ℕ → ℕ → ℕ
byte_at text p = value (get_or text p 0) * 16 + value (get_or text (p + 1) 0)

-- two bytes, and the four bytes of a number, high first
unfoldable pub short_at : List ℕ → ℕ → ℕ
short_at text p = byte_at text p * byte_values + byte_at text (p + 2)

unfoldable pub number_at : List ℕ → ℕ → ℕ
number_at text p = byte_at text p * 16777216 + byte_at text (p + 2) * 65536 + byte_at text (p + 4) * byte_values + byte_at text (p + 6)

-- the head: both next numbers, n and m
abbrev pub next_vertex_of : List ℕ → ℕ
next_vertex_of text = number_at text 6

abbrev pub next_hyperedge_of : List ℕ → ℕ
next_hyperedge_of text = number_at text 14

abbrev pub vertices_due : List ℕ → ℕ
vertices_due text = short_at text 22

abbrev pub hyperedges_due : List ℕ → ℕ
hyperedges_due text = short_at text 26

-- the line of vertex i begins behind the head and the vertices before it
abbrev pub vertex_place : ℕ → ℕ
vertex_place i = head_length + i * vertex_length

-- a record's line, from its place p on: the kind, the number, the weight; for a hyperedge the count and the members
abbrev pub number_in : List ℕ → ℕ → ℕ
number_in text p = number_at text (p + 2)

abbrev pub weight_in : List ℕ → ℕ → ℕ
weight_in text p = number_at text (p + 10)

abbrev pub count_in : List ℕ → ℕ → ℕ
count_in text p = byte_at text (p + 18)

abbrev pub member_in : List ℕ → ℕ → ℕ → ℕ
member_in text p k = number_at text (p + 20 + k * member_length)

-- vertex i, as its line says
abbrev pub vertex_in : List ℕ → ℕ → Vertex
vertex_in text i = vertex_of (number_in text (vertex_place i)) (weight_in text (vertex_place i))

-- the line of hyperedge j begins behind the vertices and the hyperedges before it
unfoldable pub hyperedge_place : List ℕ → ℕ → ℕ
hyperedge_place text zero = vertex_place (vertices_due text)
hyperedge_place text (suc j) = let p = hyperedge_place text j in p + hyperedge_length (count_in text p)

-- a hyperedge, as the line at p says
abbrev pub hyperedge_from : List ℕ → ℕ → Hyperedge
hyperedge_from text p = hyperedge_of (number_in text p) (weight_in text p) (tab (member_in text p) (count_in text p))

-- hyperedge j
abbrev pub hyperedge_in : List ℕ → ℕ → Hyperedge
hyperedge_in text j = hyperedge_from text (hyperedge_place text j)

-- the content that stands in the text
unfoldable pub content_of : List ℕ → Table
content_of text = record {
  next_vertex = next_vertex_of text;
  next_hyperedge = next_hyperedge_of text;
  vertices = tab (vertex_in text) (vertices_due text);
  hyperedges = tab (hyperedge_in text) (hyperedges_due text);
}

-- ---- which lines are good

-- the text has the bytes xs at place p
unfoldable pub stands_at : List ℕ → ℕ → List ℕ → Bool
stands_at text p xs = same_list (take (length xs) (drop p text)) xs

-- the head: what the writer gives for these numbers; n and m within the limits, no more of a kind than numbers were given,
-- and no hyperedge without a vertex
unfoldable pub head_good : List ℕ → Bool
head_good text =
    stands_at text 0 (line (head_frame (next_vertex_of text) (next_hyperedge_of text) (vertices_due text) (hyperedges_due text)))
    and leb (vertices_due text) vertex_limit
    and leb (hyperedges_due text) hyperedge_limit
    and leb (vertices_due text) (next_vertex_of text)
    and leb (hyperedges_due text) (next_hyperedge_of text)
    and (eqb (hyperedges_due text) 0 || ltb 0 (vertices_due text))

-- the number of record i is above the number of the record before it
unfoldable pub climbs_to : (ℕ → ℕ) → ℕ → Bool
climbs_to number zero = true
climbs_to number (suc i) = ltb (number i) (number (suc i))

-- record i of n: its number is above the one before it and, with one for each record that must follow, below the next number
unfoldable pub number_good : (ℕ → ℕ) → ℕ → ℕ → ℕ → Bool
number_good number n next i = climbs_to number i and leb (number i + (n - i)) next

-- the numbers of the vertices and of the hyperedges, by place
abbrev pub vertex_number_in : List ℕ → ℕ → ℕ
vertex_number_in text i = number_in text (vertex_place i)

abbrev pub hyperedge_number_in : List ℕ → ℕ → ℕ
hyperedge_number_in text j = number_in text (hyperedge_place text j)

-- vertex i: what the writer gives for it, and a number that fits
unfoldable pub vertex_good : List ℕ → ℕ → Bool
vertex_good text i =
    stands_at text (vertex_place i) (vertex_line (vertex_in text i))
    and number_good (vertex_number_in text) (vertices_due text) (next_vertex_of text) i

-- hyperedge j: the same, with a count that fits and every member live
unfoldable pub hyperedge_good : List ℕ → ℕ → Bool
hyperedge_good text j =
    stands_at text (hyperedge_place text j) (hyperedge_line (hyperedge_in text j))
    and number_good (hyperedge_number_in text) (hyperedges_due text) (next_hyperedge_of text) j
    and count_fits limit (hyperedge_in text j)
    and members_live (live_vertices (content_of text)) (hyperedge_in text j)

-- the line behind k others: the head, then the vertices, then the hyperedges
unfoldable pub line_good : List ℕ → ℕ → Bool
line_good text zero = head_good text
line_good text (suc k) = cond (ltb k (vertices_due text)) (vertex_good text k) (hyperedge_good text (k - vertices_due text))

-- how many lines the head promises
abbrev pub lines_due : List ℕ → ℕ
lines_due text = suc (vertices_due text + hyperedges_due text)

-- the first number below n at which the test fails, or n
unfoldable pub first_not : (ℕ → Bool) → ℕ → ℕ
first_not p zero = zero
first_not p (suc n) = let k = first_not p n in cond (ltb k n) k (cond (p n) (suc n) n)

-- how many lines are good, one after the other from the first on
unfoldable pub good_lines : List ℕ → ℕ
good_lines text = first_not (line_good text) (lines_due text)

-- ---- reading

-- every line that the head promises is good, and the text ends behind the last
unfoldable pub accepted : List ℕ → Bool
accepted text = eqb (good_lines text) (lines_due text) and eqb (length text) (hyperedge_place text (hyperedges_due text))

-- where the text is not accepted: the line behind the good ones
unfoldable pub faulty_line : List ℕ → ℕ
faulty_line text = suc (good_lines text)

-- read_frames: 1 only for a wrong length; 12 with the line, which changes no word; else the words of the text's content
unfoldable pub read_result : List ℕ → List ℕ → Result
read_result text lent =
    cond (eqb (length lent) (size limit))
    (cond (accepted text) (result_of (Ok 0) (words limit (content_of text))) (result_of (Err (BadText (faulty_line text))) lent))
    (result_of (Err NotWellFormed) lent)
