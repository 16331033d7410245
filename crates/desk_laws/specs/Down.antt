-- Orders that the desk accepts, and going down one. Assumes nothing.
use Rattle.std.specs.Prelude.{◌≡◌, Bool, true, false, not, List, [], ◌∷◌, map, ℕ, ◌<◌, ◌≤◌, length}
use Rattle.lists.specs.Lists.{all}
use Rattle.layout.specs.Content.{Table, live_vertices, is_live}
use Rattle.layout.specs.Steps.{StepIn}
use Rattle.layout.specs.Answers.{Result}
use Rattle.order.specs.Sort.{Forward}
use Rattle.desk.specs.States.{waiting, released, in_state}
use Rattle.desk.specs.Desk.{Desk, content}
use Rattle.desk.specs.Releases.{on_desk}
use Rattle.desk.specs.Orders.{at_fault, accept_result, stops_short}
use Rattle.desk.specs.Calls.{DeskCall, release, desk_call}

-- the call of the planner's order
abbrev pub accept_call : List ℕ → Desk → Result
accept_call order d = on_desk d [] (accept_result order)

-- the desk accepts it: the call answers 0
abbrev pub Accepts : Desk → List ℕ → Type 0
Accepts d order = (accept_call order d).number ≡ 0

-- it lists every live vertex once, and every step goes forward
abbrev pub ForwardIn : Table → List ℕ → Type 0
ForwardIn t order = Forward (is_live (live_vertices t)) (StepIn t) order

-- place i, from 0, is the first whose vertex is not live, is repeated, or has a step to itself or an earlier entry; or no place is, the order
-- stops short and i is its length
pub record FirstFault (t : Table) (order : List ℕ) (i : ℕ) : Type 0 where
  pub within : i ≤ length order
  pub before : (j : ℕ) → j < i → at_fault t order j ≡ false
  pub here : i < length order → at_fault t order i ≡ true
  pub short : i ≡ length order → stops_short t order ≡ true

-- ---- going down an order

-- a release for each entry
abbrev pub releases : List ℕ → List DeskCall
releases order = map release order

-- each call of the list is done
abbrev pub AllDone : List DeskCall → Desk → Type 0
AllDone [] d = Unit {0}
AllDone (c ∷ cs) d = ((desk_call c d).number ≡ 0) × AllDone cs (desk_call c d).desk

-- no live vertex waits; every live vertex is released
unfoldable pub past_waiting : Desk → ℕ → Bool
past_waiting d v = not (in_state (content d) d.states waiting v)

abbrev pub AllReviewed : Desk → Type 0
AllReviewed d = all (past_waiting d) (live_vertices (content d)) ≡ true

abbrev pub AllReleased : Desk → Type 0
AllReleased d = all (in_state (content d) d.states released) (live_vertices (content d)) ≡ true
