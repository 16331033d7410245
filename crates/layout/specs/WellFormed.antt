-- Which lists of words are a table, over the member limit L. Assumes nothing.
use Rattle.std.specs.Prelude.{Bool, List, ℕ, ◌+◌, ◌-◌, leb, ltb, eqb, length, take, drop}
use Rattle.lists.specs.Tests.{◌and◌, every}
use Rattle.lists.specs.Lists.{all, zeros}
use Rattle.layout.specs.Content.{Hyperedge, Table, valid}
use Rattle.layout.specs.Layout.{vertex_limit, hyperedge_limit, hyperedges_at, size, vertex_word, hyperedge_word, vertex_count, hyperedge_count, count_at, read}

-- a used hyperedge record: count (1 to L), and every word after the members is 0
unfoldable pub record_shaped : ℕ → List ℕ → ℕ → Bool
record_shaped L ws j =
    ltb 0 (count_at L ws j)
    and leb (count_at L ws j) L
    and zeros (take (L - count_at L ws j) (drop (hyperedge_word L j + 3 + count_at L ws j) ws))

-- every word of an unused record is 0
unfoldable pub unused_vertices : List ℕ → Bool
unused_vertices ws = zeros (take (hyperedges_at - vertex_word (vertex_count ws)) (drop (vertex_word (vertex_count ws)) ws))

unfoldable pub unused_hyperedges : ℕ → List ℕ → Bool
unused_hyperedges L ws = zeros (drop (hyperedge_word L (hyperedge_count ws)) ws)

-- the rules that speak of the words: the length, n (at most 256), m (at most 192), and every unused word is 0
unfoldable pub shaped : ℕ → List ℕ → Bool
shaped L ws =
    eqb (length ws) (size L)
    and leb (vertex_count ws) vertex_limit
    and leb (hyperedge_count ws) hyperedge_limit
    and unused_vertices ws
    and unused_hyperedges L ws
    and every (record_shaped L ws) (hyperedge_count ws)

-- well formed: the words are shaped, and the content that stands in them is valid
unfoldable pub well_formed : ℕ → List ℕ → Bool
well_formed L ws = shaped L ws and valid (read L ws)

-- ---- which content a table can hold

-- count (1 to L)
unfoldable pub count_fits : ℕ → Hyperedge → Bool
count_fits L e = ltb 0 (length e.members) and leb (length e.members) L

-- n (at most 256), m (at most 192), each count fits, and the content is valid
unfoldable pub holdable : ℕ → Table → Bool
holdable L t =
    leb (length t.vertices) vertex_limit
    and leb (length t.hyperedges) hyperedge_limit
    and all (count_fits L) t.hyperedges
    and valid t
