-- What is left after a record that builds a table, and after the last one. Assumes nothing.
use Rattle.std.specs.Prelude.{ℕ, min, cond, List, length, ◌==◌, nat_eq}
use Rattle.lists.specs.Tests.{◌and◌}
use Rattle.layout.specs.Layout.{limit}
use Rattle.layout.specs.Answers.{Result, on_formed}
use Rattle.edits.specs.Results.{add_vertex_result, add_hyperedge_result, update_result, remove_vertex_result, merge_result, remove_hyperedge_result, clear_result}
use Rattle.replay.specs.declared.Held.{Held}
use Rattle.replay.specs.Records.{lost, whole, four_read, word_read, extent_at, list_at}
use Rattle.replay.specs.Judging.{counted_in, compared_in, answer_at, sum_of, summed_at}

-- the place after the record, the table and the tally
pub record LeftBy : Type 0 where
  pub at : ℕ
  pub table : List ℕ
  pub tally : List ℕ

-- a place, a table and a tally
abbrev pub left_by : ℕ → List ℕ → List ℕ → LeftBy
left_by at table tally = record { at = at; table = table; tally = tally }

-- a comparison for the function of place f, counted, and the table as it is then
unfoldable pub compared : ℕ → Held → List ℕ → List ℕ → LeftBy
compared f h table tally = left_by h.at table (counted_in f h.same tally)

-- an edit, whose answer is recorded at place p
unfoldable pub edited : List ℕ → ℕ → ℕ → Result → List ℕ → LeftBy
edited s p f x tally = compared f (answer_at s p x.number x.detail) x.lent tally

-- the vertex's weight, and the answer
unfoldable pub vertex_added : List ℕ → ℕ → List ℕ → List ℕ → LeftBy
vertex_added s p t tally = edited s (word_read s p).at 0 (on_formed t t (add_vertex_result (word_read s p).value t)) tally

-- the members, the weight, and the answer
unfoldable pub hyperedge_added : List ℕ → ℕ → List ℕ → List ℕ → LeftBy
hyperedge_added s p t tally =
    edited s (word_read s (extent_at s p limit).at).at 1
    (on_formed t t (add_hyperedge_result (list_at s p limit) (word_read s (extent_at s p limit).at).value t))
    tally

-- the hyperedge, its new members, and the answer
unfoldable pub hyperedge_updated : List ℕ → ℕ → List ℕ → List ℕ → LeftBy
hyperedge_updated s p t tally =
    edited s (extent_at s (word_read s p).at limit).at 2
    (on_formed t t (update_result (word_read s p).value (list_at s (word_read s p).at limit) t))
    tally

-- the vertex, and the answer
unfoldable pub vertex_removed : List ℕ → ℕ → List ℕ → List ℕ → LeftBy
vertex_removed s p t tally = edited s (word_read s p).at 3 (on_formed t t (remove_vertex_result (word_read s p).value t)) tally

-- the hyperedge, and the answer
unfoldable pub hyperedge_removed : List ℕ → ℕ → List ℕ → List ℕ → LeftBy
hyperedge_removed s p t tally = edited s (word_read s p).at 4 (on_formed t t (remove_hyperedge_result (word_read s p).value t)) tally

-- the two vertices, and the answer
unfoldable pub vertices_merged : List ℕ → ℕ → List ℕ → List ℕ → LeftBy
vertices_merged s p t tally =
    edited s (word_read s (word_read s p).at).at 7
    (on_formed t t (merge_result (word_read s p).value (word_read s (word_read s p).at).value t))
    tally

-- the sum of all words of the table
unfoldable pub table_summed : List ℕ → ℕ → List ℕ → List ℕ → LeftBy
table_summed s p t tally = compared 6 (summed_at s p (sum_of t (length t))) t tally

-- how many answers there are and the sum of all bytes before that sum, and nothing follows it
unfoldable pub end_at : List ℕ → ℕ → List ℕ → ℕ
end_at s p tally =
    let end = summed_at s (four_read s p).at (sum_of s (min (four_read s p).at (length s))) in
    cond (end.same and (nat_eq end.at (length s) and nat_eq (four_read s p).value (compared_in tally))) whole lost

-- what is left by the record of a kind, whose rest stands at place p
unfoldable pub record_at : List ℕ → ℕ → ℕ → List ℕ → List ℕ → LeftBy
record_at s kind p t tally =
    cond (kind == 1) (vertex_added s p t tally)
    (cond (kind == 2) (hyperedge_added s p t tally)
    (cond (kind == 3) (hyperedge_updated s p t tally)
    (cond (kind == 4) (vertex_removed s p t tally)
    (cond (kind == 5) (hyperedge_removed s p t tally)
    (cond (kind == 6) (edited s p 5 (clear_result t) tally)
    (cond (kind == 7) (table_summed s p t tally)
    (cond (kind == 9) (vertices_merged s p t tally)
    (cond (kind == 255) (left_by (end_at s p tally) t tally)
    (left_by lost t tally)))))))))
