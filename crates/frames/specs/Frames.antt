-- Frame text: what a content is written as, over bytes as numbers. Assumes nothing.
use Rattle.std.specs.Prelude.{cond, List, [], ◌∷◌, ◌++◌, ℕ, ◌+◌, ◌-◌, ◌*◌, ◌/◌, ◌%◌, ltb, length}
use Rattle.lists.specs.Lists.{itself, sum_over, flat}
use Rattle.layout.specs.Content.{Vertex, Hyperedge, Table}
use Rattle.layout.specs.Answers.{Result, listed}

-- how many values a byte has
abbrev pub byte_values : ℕ
byte_values = 256

-- the byte of x that counts the units
abbrev pub byte_of : ℕ → ℕ → ℕ
byte_of x unit = x / unit % byte_values

-- numbers are four bytes, high first
unfoldable pub number_bytes : ℕ → List ℕ
number_bytes x = byte_of x 16777216 ∷ byte_of x 65536 ∷ byte_of x byte_values ∷ byte_of x 1 ∷ []

-- two bytes
unfoldable pub short_bytes : ℕ → List ℕ
short_bytes x = byte_of x byte_values ∷ byte_of x 1 ∷ []

-- 48 47 31
abbrev pub head_mark : List ℕ
head_mark = 72 ∷ 71 ∷ 49 ∷ []

-- head: 48 47 31, both next numbers, n and m in two bytes each
unfoldable pub head_frame : ℕ → ℕ → ℕ → ℕ → List ℕ
head_frame next_vertex next_hyperedge n m =
    head_mark ++ (number_bytes next_vertex ++ (number_bytes next_hyperedge ++ (short_bytes n ++ short_bytes m)))

-- vertices: 01, number, weight
unfoldable pub vertex_frame : Vertex → List ℕ
vertex_frame v = 1 ∷ (number_bytes v.number ++ number_bytes v.weight)

-- hyperedges: 02, number, weight, one byte of count, members
unfoldable pub hyperedge_frame : Hyperedge → List ℕ
hyperedge_frame e =
    2 ∷ (number_bytes e.number ++ (number_bytes e.weight ++ (length e.members ∷ flat number_bytes e.members)))

-- the byte sum
abbrev pub byte_sum : List ℕ → ℕ
byte_sum bs = sum_over itself bs

-- the byte that makes a byte sum 0 modulo 256
unfoldable pub balance : ℕ → ℕ
balance sum = (byte_values - sum % byte_values) % byte_values

-- the last byte of a frame
unfoldable pub check : List ℕ → ℕ
check frame = balance (byte_sum frame)

-- a frame with its last byte
unfoldable pub sealed : List ℕ → List ℕ
sealed frame = frame ++ (check frame ∷ [])

-- capital hexadecimal: 48 is 0, and 65 is A
unfoldable pub digit : ℕ → ℕ
digit k = cond (ltb k 10) (48 + k) (55 + k)

-- a byte in two digits, high first
unfoldable pub byte_digits : ℕ → List ℕ
byte_digits b = digit (b / 16) ∷ digit (b % 16) ∷ []

-- bytes in digits
unfoldable pub digits : List ℕ → List ℕ
digits bs = flat byte_digits bs

-- a line feed
abbrev pub line_feed : List ℕ
line_feed = 10 ∷ []

-- one frame a line
unfoldable pub line : List ℕ → List ℕ
line frame = digits (sealed frame) ++ line_feed

-- the bytes of a head line, of a vertex line, of a member, and of a hyperedge line with k members
abbrev pub head_length : ℕ
head_length = 33

abbrev pub vertex_length : ℕ
vertex_length = 21

abbrev pub member_length : ℕ
member_length = 8

abbrev pub hyperedge_length : ℕ → ℕ
hyperedge_length k = 23 + k * member_length

-- the lines of the head, of a vertex, of a hyperedge
unfoldable pub head_line : Table → List ℕ
head_line t = line (head_frame t.next_vertex t.next_hyperedge (length t.vertices) (length t.hyperedges))

unfoldable pub vertex_line : Vertex → List ℕ
vertex_line v = line (vertex_frame v)

unfoldable pub hyperedge_line : Hyperedge → List ℕ
hyperedge_line e = line (hyperedge_frame e)

-- the text of a content: the head, the vertices, the hyperedges
unfoldable pub frame_text : Table → List ℕ
frame_text t = head_line t ++ (flat vertex_line t.vertices ++ flat hyperedge_line t.hyperedges)

-- write_frames: 1, 11 where the text is longer than the lent slice; else the text from the front
unfoldable pub write_result : List ℕ → Table → Result
write_result text t = listed (frame_text t) text
