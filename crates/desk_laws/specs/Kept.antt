-- What may end the state of a vertex, and what it is that everything upstream of a released vertex is released. Assumes nothing.
use Rattle.std.specs.Prelude.{◌≡◌, Bool, true, false, map, ℕ, eqb}
use Rattle.lists.specs.Lists.{any}
use Rattle.layout.specs.Steps.{StepIn}
use Rattle.removals.specs.Removals.{is_vertex}
use Rattle.trays.specs.Trays.{asked}
use Rattle.calls.specs.Calls.{add_vertex, add_hyperedge, update, merge, remove, withdraw, an_edit, clear, read_text}
use Rattle.desk.specs.States.{released, in_state}
use Rattle.desk.specs.Desk.{Desk, content}
use Rattle.desk.specs.Calls.{DeskCall, through, review, release}

-- vertex v is released; one that is not live waits
abbrev pub Released : Desk → ℕ → Type 0
Released d v = in_state (content d) d.states released v ≡ true

-- the call may end the state of v: it removes v, alone, in a tray or as the w of a merge, or it is a clear or the read of a text
unfoldable pub may_end : ℕ → DeskCall → Bool
may_end v (through (an_edit (add_vertex w))) = false
may_end v (through (an_edit (add_hyperedge ms w))) = false
may_end v (through (an_edit (update x ms))) = false
may_end v (through (an_edit (merge x w))) = eqb v w
may_end v (through (an_edit (remove r))) = is_vertex v r
may_end v (through (an_edit (withdraw rs))) = any (is_vertex v) (map asked rs)
may_end v (through clear) = true
may_end v (through (read_text text)) = true
may_end v (review x) = false
may_end v (release x) = false

-- the call is a review or a release
unfoldable pub signs : DeskCall → Bool
signs (through c) = false
signs (review v) = true
signs (release v) = true

-- every vertex with a step into a released one is released
abbrev pub UpstreamReleased : Desk → Type 0
UpstreamReleased d = (u v : ℕ) → StepIn (content d) u v → Released d v → Released d u
