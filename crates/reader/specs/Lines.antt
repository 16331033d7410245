-- What the code tests of a line: its end, its digits, its byte sum, and what its record must be. Assumes nothing.
use Rattle.std.specs.Prelude.{◌≡◌, Bool, true, cond, ◌||◌, List, ℕ, zero, suc, ◌+◌, ◌*◌, ◌-◌, ◌%◌, ◌≤◌, ◌<◌, eqb, leb, ltb, length, get_or}
use Rattle.lists.specs.Tests.{◌and◌}
use Rattle.lists.specs.Lists.{all, is_below}
use Rattle.layout.specs.Layout.{vertex_limit, hyperedge_limit}
use Rattle.layout.specs.Content.{vertex_of}
use Rattle.frames.specs.Frames.{byte_values, byte_sum, vertex_line}
use Rattle.frames.specs.Reading.{value, number_in, weight_in, stands_at}
use Rattle.frames.specs.Bytes.{bytes_at}

-- the table of values: what each byte is as a digit
pub record Valued (values : List ℕ) : Type 0 where
  pub sized : length values ≡ byte_values
  pub rule : (c : ℕ) → c < byte_values → get_or values c 0 ≡ value c

-- the byte sum, or 1 where a digit is none
unfoldable pub frame_sum : List ℕ → ℕ → ℕ → ℕ
frame_sum text p k = cond (all (is_below byte_values) (bytes_at text p k)) (byte_sum (bytes_at text p k)) 1

-- the place behind the line at p, of so many bytes, where it passes a test; else p
unfoldable pub behind : Bool → ℕ → ℕ → ℕ
behind passes p width = cond passes (p + width) p

-- the place behind a line of so many bytes, or the same place where there is none that ends so
unfoldable pub line_end : List ℕ → ℕ → ℕ → ℕ
line_end text p width = behind (leb (p + width) (length text) and eqb (get_or text (p + (width - 1)) 0) 10) p width

-- the line at p is of k bytes, in digits of capital hexadecimal, with a byte sum of 0 modulo 256
unfoldable pub sealed_at : List ℕ → ℕ → ℕ → Bool
sealed_at text p k =
    leb (p + (k * 2 + 1)) (length text)
    and eqb (get_or text (p + k * 2) 0) 10
    and all (is_below byte_values) (bytes_at text p k)
    and eqb (byte_sum (bytes_at text p k) % byte_values) 0

-- what is known of such a line
pub record Sealed (text : List ℕ) (p k : ℕ) : Type 0 where
  pub room : p + (k * 2 + 1) ≤ length text
  pub low : all (is_below byte_values) (bytes_at text p k) ≡ true
  pub is : sealed_at text p k ≡ true

-- n and m within the limits, no more of a kind than numbers were given, and no hyperedge without a vertex
unfoldable pub counts_fit : ℕ → ℕ → ℕ → ℕ → Bool
counts_fit n m next_vertex next_hyperedge =
    leb n vertex_limit
    and leb m hyperedge_limit
    and leb n next_vertex
    and leb m next_hyperedge
    and (eqb m 0 || ltb 0 n)

-- the least number that record i may have: 0, or one above the record before it
unfoldable pub lowest : (ℕ → ℕ) → ℕ → ℕ
lowest number zero = 0
lowest number (suc i) = number i + 1

-- a number from low to high
unfoldable pub number_fits : ℕ → ℕ → ℕ → Bool
number_fits x low high = leb low x and leb x high

-- the vertex line at p: what the writer gives for it, and a number from low to high
unfoldable pub vertex_fits : List ℕ → ℕ → ℕ → ℕ → Bool
vertex_fits text p low high =
    stands_at text p (vertex_line (vertex_of (number_in text p) (weight_in text p))) and number_fits (number_in text p) low high
