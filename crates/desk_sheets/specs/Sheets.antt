-- The sheets of records, of states and of the planner's order. Assumes nothing.
use Rattle.std.specs.Prelude.{Bool, true, false, List, [], ◌∷◌, ◌++◌, ℕ, length}
use Rattle.layout.specs.Content.{Table, vertex_of, hyperedge_of}
use Rattle.layout.specs.Answers.{Result, on_live_vertex, on_live_hyperedge}
use Rattle.edits.specs.Results.{members_of}
use Rattle.desk.specs.Releases.{releasable}
use Rattle.desk.specs.Orders.{accept_result}
use Rattle.reads.specs.Reads.{vertex_weight, hyperedge_weight}
use Rattle.wording.specs.Texts.{text}
use Rattle.wording.specs.Pages.{Page, write}
use Rattle.wording.specs.Forms.{filled, number_line}
use Rattle.saying.specs.Saying.{paged, word_on}
use Rattle.record_sheets.specs.Records.{tube_line, transfer_line, tube_lines, transfer_lines, transfers_of}

-- ---- records; ss are the states

-- a transfer; plain: numbers only
unfoldable pub transfer_form : Bool → List ℕ
transfer_form false = text "transfer A   cost B   tubes "
transfer_form true = text "A B "

-- both counts
unfoldable pub count_line : Table → List ℕ
count_line t = filled (text "A B\n") (length t.vertices ∷ length t.hyperedges ∷ []) []

unfoldable pub show_sheet : Bool → List ℕ → Table → List ℕ
show_sheet false ss t = tube_lines (text "none\n") (text "tube A   weight B\n") ss t ++ transfer_lines (transfer_form false) t
show_sheet true ss t = count_line t ++ (tube_lines [] (text "A B\n") ss t ++ transfer_lines (transfer_form true) t)

unfoldable pub tube_sheet : Bool → ℕ → List ℕ → Table → List ℕ
tube_sheet false v ss t =
    tube_line (text "tube A   weight B   U\n") ss t (vertex_of v (vertex_weight v t))
    ++ transfers_of (text "  none\n") (text "  transfer A   cost B   tubes ") v t
tube_sheet true v ss t = tube_line (text "A B C\n") ss t (vertex_of v (vertex_weight v t)) ++ transfers_of [] (transfer_form true) v t

-- show a tube: 1, 3
unfoldable pub tube_result : Bool → ℕ → List ℕ → Page → Table → Result
tube_result plain v ss p t = on_live_vertex t v p.bytes (paged (write (tube_sheet plain v ss t) p))

unfoldable pub transfer_sheet : Bool → ℕ → Table → List ℕ
transfer_sheet plain e t = transfer_line (transfer_form plain) (hyperedge_of e (hyperedge_weight e t) (members_of e t.hyperedges))

-- show a transfer: 1, 4
unfoldable pub transfer_result : Bool → ℕ → Page → Table → Result
transfer_result plain e p t = on_live_hyperedge t e p.bytes (paged (write (transfer_sheet plain e t) p))

-- ---- states

-- what a release would release now
unfoldable pub releasable_line : List ℕ → Table → List ℕ
releasable_line ss t = number_line (text "can be released now: ") (text "none") (releasable ss t)

unfoldable pub states_sheet : Bool → List ℕ → Table → List ℕ
states_sheet false ss t =
    text "states\n"
    ++ (tube_lines (text "  none\n") (text "  tube A   U\n") ss t ++ releasable_line ss t)
states_sheet true ss t = tube_lines [] (text "A C\n") ss t

-- ---- the order

unfoldable pub order_sheet : Bool → ℕ → List ℕ
order_sheet false k = text "order accepted\n"
order_sheet true k = text "1\n"

-- the planner's order: 1, 19
unfoldable pub order_result : Bool → List ℕ → Page → Table → Result
order_result plain list p t = word_on (accept_result list t) (order_sheet plain) p
