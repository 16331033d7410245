-- What the edits store in a table's words. Assumes nothing.
use Rattle.std.specs.Prelude.{List, ◌∷◌, ℕ, ◌+◌, ◌-◌, length, set, replicate}
use Rattle.std.proofs.Math.Seq.{paste}
use Rattle.lists.specs.Lists.{pad}
use Rattle.lists.specs.Inner.{over_at}
use Rattle.layout.specs.Content.{Hyperedge}
use Rattle.layout.specs.Layout.{vertex_word, hyperedge_word, hyperedge_words}

-- a member list as a record has it: its count, its members, 0 up to L of them
abbrev pub member_words : ℕ → List ℕ → List ℕ
member_words L ms = length ms ∷ pad L ms

-- a vertex more, of number x, at place n: its record, the next number and the count
abbrev pub put_vertex : ℕ → ℕ → ℕ → List ℕ → List ℕ
put_vertex n x w ws = set (set (set (set ws (vertex_word n) x) (vertex_word n + 1) w) 0 (x + 1)) 2 (n + 1)

-- hyperedge e at place j, x the next hyperedge number and m the count
abbrev pub put_hyperedge : ℕ → ℕ → Hyperedge → ℕ → ℕ → List ℕ → List ℕ
put_hyperedge L j e x m ws = set (set (over_at (hyperedge_word L j) (hyperedge_words L e) ws) 1 x) 3 m

-- record k, whose c members stand there: 0 in the words behind them, and x, w and the count before them
abbrev pub record_ended : ℕ → ℕ → ℕ → ℕ → ℕ → List ℕ → List ℕ
record_ended L k x w c ws =
    set (set (set (paste ws (hyperedge_word L k + 3 + c) (replicate (L - c) 0) (L - c)) (hyperedge_word L k) x) (hyperedge_word L k + 1) w) (hyperedge_word L k + 2) c
