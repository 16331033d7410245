-- The sheets of a small table, computed. Assumes nothing.
use mathlib.Core.Path.{◌≡◌, refl}
use mathlib.Core.Bool.{true, false}
use mathlib.Core.List.{List, [], ◌∷◌, ◌++◌}
use Prim.Native.Nat.{ℕ}
use Rattle.lists.specs.Tests.{◌and◌, every, chosen}
use Rattle.lists.specs.Lists.{any, filter, tab, flat}
use Rattle.layout.specs.Content.{Table, vertex_of, hyperedge_of, hyperedges_of, position, position_from}
use Rattle.layout.specs.Steps.{steps_of, is_step, makes_step, has_step}
use Rattle.edits.specs.Results.{members_of}
use Rattle.graph.specs.Bfs.{push, spread, run, bfs}
use Rattle.order.specs.Least.{least}
use Rattle.order.specs.Greedy.{available, next, rest, greedy}
use Rattle.distance.specs.Computed.{lex_le, ahead, better, onward, best_over, stay, best_within, best}
use Rattle.steps.specs.Matrices.{undirected}
use Rattle.structural.specs.Sort.{sort_of, acyclic}
use Rattle.structural.specs.Components.{connected}
use Rattle.paths.specs.Paths.{lighter, choice_among, choice, step_hyperedge, step_cost, best_path, entries_after}
use Rattle.reads.specs.Reads.{vertex_weight, hyperedge_weight}
use Rattle.desk.specs.States.{state_in, in_state}
use Rattle.desk.specs.Releases.{holds, is_releasable, releasable}
use Rattle.wording.specs.Texts.{text, spelled, decimal}
use Rattle.wording.specs.Forms.{within, wide_at, meant, filled, joined, number_line}
use Rattle.record_sheets.specs.Records.{state_name, tube_line, transfer_line, lines_or, tube_lines, transfer_lines, transfers_of}
use Rattle.path_sheets.specs.Path.{entry_lines, walk_sheet, path_sheet}
use Rattle.check_sheets.specs.Check.{yes_no, checked, check_lines, check_sheet}
use Rattle.desk_sheets.specs.Sheets.{transfer_form, count_line, show_sheet, tube_sheet, transfer_sheet, releasable_line, states_sheet}

-- five tubes, the last in no transfer, and three transfers
abbrev table : Table
table = record {
  next_vertex = 5;
  next_hyperedge = 3;
  vertices = vertex_of 0 7 ∷ vertex_of 1 10 ∷ vertex_of 2 0 ∷ vertex_of 3 8 ∷ vertex_of 4 9 ∷ [];
  hyperedges = hyperedge_of 0 4 (0 ∷ 1 ∷ 2 ∷ []) ∷ hyperedge_of 1 1 (0 ∷ 3 ∷ []) ∷ hyperedge_of 2 2 (3 ∷ 2 ∷ []) ∷ [];
}

-- tube 0 is released, 1 and 3 are reviewed
abbrev states : List ℕ
states = 2 ∷ 1 ∷ 0 ∷ 1 ∷ 0 ∷ []

checked-example : check_sheet false table ++ check_sheet true table
    ≡ text "well formed: 5 tubes, 3 transfers, next tube 5, next transfer 3\n  connected no\n  can be sorted yes\n5 3 5 3 0 1\n"
unfolding check_sheet check_lines checked yes_no filled flat meant within decimal spelled ◌and◌ connected every bfs run spread push undirected has_step makes_step is_step steps_of any acyclic sort_of greedy rest next available least filter position position_from tab chosen
checked-example = refl

shown-example : show_sheet false states table ++ show_sheet true states table
    ≡ text "tube 0   weight 7\ntube 1   weight 10\ntube 2   weight 0\ntube 3   weight 8\ntube 4   weight 9\ntransfer 0   cost 4   tubes 0 1 2\ntransfer 1   cost 1   tubes 0 3\ntransfer 2   cost 2   tubes 3 2\n5 3\n0 7\n1 10\n2 0\n3 8\n4 9\n0 4 0 1 2\n1 1 0 3\n2 2 3 2\n"
unfolding show_sheet count_line transfer_form tube_lines transfer_lines lines_or tube_line transfer_line state_name state_in position position_from filled flat meant within decimal spelled ◌and◌ joined number_line
shown-example = refl

tube-example : tube_sheet false 3 states table ++ (tube_sheet true 3 states table ++ tube_sheet false 4 states table)
    ≡ text "tube 3   weight 8   reviewed\n  transfer 1   cost 1   tubes 0 3\n  transfer 2   cost 2   tubes 3 2\n3 8 1\n1 1 0 3\n2 2 3 2\ntube 4   weight 9   waiting\n  none\n"
unfolding tube_sheet transfer_form transfers_of hyperedges_of filter vertex_weight lines_or tube_line transfer_line state_name state_in position position_from filled flat meant within decimal spelled ◌and◌ joined number_line
tube-example = refl

transfer-example : transfer_sheet false 1 table ++ transfer_sheet true 1 table ≡ text "transfer 1   cost 1   tubes 0 3\n1 1 0 3\n"
unfolding transfer_sheet transfer_form transfer_line hyperedge_weight members_of position position_from filled flat meant within decimal spelled ◌and◌ joined number_line
transfer-example = refl

path-example : path_sheet false 0 2 table ++ (path_sheet true 0 2 table ++ (path_sheet false 0 4 table ++ path_sheet true 0 4 table))
    ≡ text "path 0 to 2, cost 3\n  tube 0\n  tube 3   by transfer 1   cost 1\n  tube 2   by transfer 2   cost 2\n3\n0\n3 1 1\n2 2 2\npath 0 to 4\n  none\n"
unfolding path_sheet walk_sheet entry_lines entries_after best_path best best_within stay best_over onward better ahead lex_le step_hyperedge step_cost choice choice_among lighter has_step makes_step is_step steps_of any hyperedge_weight position position_from filled flat meant within wide_at decimal spelled ◌and◌
path-example = refl

states-example : states_sheet false states table ++ states_sheet true states table
    ≡ text "states\n  tube 0   released\n  tube 1   reviewed\n  tube 2   waiting\n  tube 3   reviewed\n  tube 4   waiting\ncan be released now: 1 3\n0 2\n1 1\n2 0\n3 1\n4 0\n"
unfolding states_sheet releasable_line releasable is_releasable holds in_state has_step makes_step is_step steps_of any filter tube_lines lines_or tube_line state_name state_in position position_from filled flat meant within decimal spelled ◌and◌ joined number_line
states-example = refl
