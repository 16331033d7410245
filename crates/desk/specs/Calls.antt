-- Calls of the desk, one after the other. Assumes nothing.
use Rattle.std.specs.Prelude.{List, [], ◌∷◌, ℕ}
use Rattle.layout.specs.Answers.{Result}
use Rattle.calls.specs.Calls.{Call, an_edit, clear, read_text}
use Rattle.desk.specs.Desk.{Desk, desk_of, Outcome, answering, desk_edit, desk_clear, desk_read}
use Rattle.desk.specs.Releases.{on_desk, review_result, release_result}

-- every call that writes a lent slice: a call on the table through the desk, a review, a release
pub data DeskCall : Type 0 where
  through : Call → DeskCall
  review : ℕ → DeskCall
  release : ℕ → DeskCall

-- a call that writes the states alone
abbrev pub signed : Desk → Result → Outcome
signed d r = answering r (desk_of d.table r.lent)

-- what one call answers and leaves
unfoldable pub desk_call : DeskCall → Desk → Outcome
desk_call (through (an_edit e)) d = desk_edit e d
desk_call (through clear) d = desk_clear d
desk_call (through (read_text text)) d = desk_read text d
desk_call (review v) d = signed d (on_desk d d.states (review_result v d.states))
desk_call (release v) d = signed d (on_desk d d.states (release_result v d.states))

-- the desk after one call for each of the list
unfoldable pub after_desk : List DeskCall → Desk → Desk
after_desk [] d = d
after_desk (c ∷ cs) d = after_desk cs (desk_call c d).desk
