-- Edits, and all calls that write a table, one call after the other. Assumes nothing.
use Rattle.std.specs.Prelude.{◌≡◌, List, [], ◌∷◌, ℕ}
use Rattle.layout.specs.Answers.{Result, on_formed}
use Rattle.edits.specs.Results.{add_vertex_result, add_hyperedge_result, update_result, merge_result, clear_result}
use Rattle.removals.specs.Removals.{Removal, removal}
use Rattle.trays.specs.declared.Withdrawal.{Withdrawal}
use Rattle.trays.specs.Trays.{tray}
use Rattle.frames.specs.Reading.{read_result}

-- an edit: every one but `clear` and the reading of a text, which set the next numbers anew
pub data Edit : Type 0 where
  add_vertex : ℕ → Edit
  add_hyperedge : List ℕ → ℕ → Edit
  update : ℕ → List ℕ → Edit
  merge : ℕ → ℕ → Edit
  remove : Removal → Edit
  withdraw : List Withdrawal → Edit

-- what one call answers and leaves
unfoldable pub edit : Edit → List ℕ → Result
edit (add_vertex w) ws = on_formed ws ws (add_vertex_result w ws)
edit (add_hyperedge ms w) ws = on_formed ws ws (add_hyperedge_result ms w ws)
edit (update x ms) ws = on_formed ws ws (update_result x ms ws)
edit (merge v w) ws = on_formed ws ws (merge_result v w ws)
edit (remove r) ws = removal r ws
edit (withdraw rs) ws = tray rs ws

-- the words after one call for each of the list
unfoldable pub after : List Edit → List ℕ → List ℕ
after [] ws = ws
after (e ∷ es) ws = after es (edit e ws).lent

-- ---- with the two that set the next numbers anew

-- every call that writes a table: an edit, `clear`, the read of a text
pub data Call : Type 0 where
  an_edit : Edit → Call
  clear : Call
  read_text : List ℕ → Call

-- what one call answers and leaves
unfoldable pub call : Call → List ℕ → Result
call (an_edit e) ws = edit e ws
call clear ws = clear_result ws
call (read_text text) ws = read_result text ws

-- it is not refused
abbrev pub Accepted : Call → List ℕ → Type 0
Accepted c ws = (call c ws).number ≡ 0

-- the words after one call for each of the list
unfoldable pub after_calls : List Call → List ℕ → List ℕ
after_calls [] ws = ws
after_calls (c ∷ cs) ws = after_calls cs (call c ws).lent
