-- The desk: a lent table and lent states, and what each edit through the desk answers and leaves. Assumes nothing.
use Rattle.std.specs.Prelude.{Bool, cond, List, ℕ, eqb, length, Err}
use Rattle.lists.specs.Tests.{◌and◌}
use Rattle.layout.specs.Answers.{Answer}
use Rattle.layout.specs.declared.Refusal.TheVariants.{NotWellFormed}
use Rattle.layout.specs.Content.{Table, live_vertices}
use Rattle.layout.specs.Layout.{limit, vertex_limit, read}
use Rattle.layout.specs.WellFormed.{well_formed}
use Rattle.layout.specs.Answers.{number, detail, Result}
use Rattle.edits.specs.Results.{clear_result}
use Rattle.frames.specs.Reading.{read_result}
use Rattle.calls.specs.Calls.{Edit, edit}
use Rattle.desk.specs.States.{states_fit, state_of, states_by, all_waiting}

-- what is lent to the desk: the words of a table, and the states
pub record Desk : Type 0 where
  pub table : List ℕ
  pub states : List ℕ

abbrev pub desk_of : List ℕ → List ℕ → Desk
desk_of ws ss = record { table = ws; states = ss }

-- what a call leaves: the answer's number and detail, and both lent slices
pub record Outcome : Type 0 where
  pub number : ℕ
  pub detail : ℕ
  pub desk : Desk

-- an answer, and what it leaves
abbrev pub outcome : Answer → Desk → Outcome
outcome a d = record { number = number a; detail = detail a; desk = d }

-- the answer of a result, and what it leaves
abbrev pub answering : Result → Desk → Outcome
answering r d = record { number = r.number; detail = r.detail; desk = d }

-- what the table holds
abbrev pub content : Desk → Table
content d = read limit d.table

-- the table is well formed, and the states fit it
unfoldable pub desk_fits : Desk → Bool
desk_fits d = well_formed limit d.table and states_fit (length (live_vertices (content d))) d.states

-- ---- edits: 1 for a table that is not well formed or states that don't fit, then the edit's own

-- the words ws in place of the table's: each vertex has the state that it had, by its number, and a new one waits
unfoldable pub following : Desk → List ℕ → Desk
following d ws = desk_of ws (states_by (state_of (content d) d.states) (live_vertices (read limit ws)))

-- the answer and the table are those of the edit's result, and the states follow their vertices
unfoldable pub edited : Result → Desk → Outcome
edited r d = cond (desk_fits d) (answering r (following d r.lent)) (outcome (Err NotWellFormed) d)

unfoldable pub desk_edit : Edit → Desk → Outcome
desk_edit e d = edited (edit e d.table) d

-- ---- clear and the read of a text: 1 only for a wrong length, then the call's own

-- where the call is done, every record waits
unfoldable pub renewed : Result → Desk → Desk
renewed r d = desk_of r.lent (cond (eqb r.number 0) all_waiting d.states)

-- the answer and the table are those of the call's result
unfoldable pub replaced : Result → Desk → Outcome
replaced r d = cond (eqb (length d.states) vertex_limit) (answering r (renewed r d)) (outcome (Err NotWellFormed) d)

abbrev pub desk_clear : Desk → Outcome
desk_clear d = replaced (clear_result d.table) d

abbrev pub desk_read : List ℕ → Desk → Outcome
desk_read text d = replaced (read_result text d.table) d
