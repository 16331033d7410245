-- The grounds of refusal at the release desk, and what it is for a call that may write both lent slices to be refused by them. Assumes nothing.
use Rattle.std.specs.Prelude.{◌≡◌, not, List, [], ◌∷◌, ◌++◌, map, ℕ, eqb, length, Err}
use Rattle.std.proofs.Math.Option.{some, none}
use Rattle.lists.specs.Lists.{up_to}
use Rattle.layout.specs.declared.Refusal.TheVariants.{NotWellFormed, BadOrder}
use Rattle.layout.specs.Content.{Table, live_vertices}
use Rattle.layout.specs.Layout.{vertex_limit}
use Rattle.removals.specs.Removals.{vertex, hyperedge}
use Rattle.calls.specs.Calls.{Edit, add_vertex, add_hyperedge, update, merge, remove, withdraw}
use Rattle.desk.specs.States.{reviewed, released, in_state}
use Rattle.desk.specs.Desk.{Desk, Outcome, outcome, content, desk_fits}
use Rattle.desk.specs.Releases.{not_reviewed, holds, upstream_held}
use Rattle.desk.specs.Orders.{at_fault, stops_short}
use Rattle.promises.specs.Refusals.{Ground, first, unsized, dead_vertices, no_room, unless, add_vertex_grounds, add_hyperedge_grounds, update_grounds, vertex_grounds, merge_grounds, hyperedge_grounds, tray_grounds, read_grounds}

-- each refusal is given then and only then, by the first that applies, and changes neither the table nor the states
pub record DeskJudged (gs : List Ground) (d : Desk) (o : Outcome) : Type 0 where
  pub refused : (g : Ground) → first gs ≡ some g → o ≡ outcome g.answer d
  pub done : first gs ≡ none → o.number ≡ 0

-- ---- the table of answer numbers

-- 1: table not well formed, or states that don't fit it
abbrev pub misfit : Desk → Ground
misfit d = record { answer = (Err NotWellFormed); applies = not (desk_fits d) }

-- 1, where only a wrong length of the states counts
abbrev pub states_unsized : Desk → Ground
states_unsized d = record { answer = (Err NotWellFormed); applies = not (eqb (length d.states) vertex_limit) }

-- 17: not reviewed
abbrev pub unreviewed : Table → List ℕ → ℕ → Ground
unreviewed t ss v = record { answer = not_reviewed v; applies = not (in_state t ss reviewed v) }

-- 18: u has a step into v and is not released
abbrev pub held_by : Table → List ℕ → ℕ → ℕ → Ground
held_by t ss v u = record { answer = upstream_held u; applies = holds t ss v u }

-- 18, for each live vertex in turn: they ascend, so the first is the lowest
abbrev pub upstream : Table → List ℕ → ℕ → List Ground
upstream t ss v = map (held_by t ss v) (live_vertices t)

-- 19: the vertex at place i of the order is not live, is repeated, or has a step to itself or an earlier entry
abbrev pub fault_at : Table → List ℕ → ℕ → Ground
fault_at t order i = record { answer = Err (BadOrder i); applies = at_fault t order i }

-- 19, for each place in turn
abbrev pub order_faults : Table → List ℕ → List Ground
order_faults t order = map (fault_at t order) (up_to (length order))

-- 19: the order stops short
abbrev pub short_order : Table → List ℕ → Ground
short_order t order = record { answer = Err (BadOrder (length order)); applies = stops_short t order }

-- ---- the order for each call

-- what each edit is refused for by itself; ws are the table's words
abbrev pub edit_grounds : Edit → List ℕ → List Ground
edit_grounds (add_vertex w) ws = add_vertex_grounds ws
edit_grounds (add_hyperedge ms w) ws = add_hyperedge_grounds ms w ws
edit_grounds (update x ms) ws = update_grounds x ms ws
edit_grounds (merge v w) ws = merge_grounds v w ws
edit_grounds (remove (vertex v)) ws = vertex_grounds (v ∷ []) ws
edit_grounds (remove (hyperedge x)) ws = hyperedge_grounds x ws
edit_grounds (withdraw rs) ws = tray_grounds rs ws

-- an edit through the desk: 1, then the edit's own
abbrev pub desk_edit_grounds : Edit → Desk → List Ground
desk_edit_grounds e d = misfit d ∷ edit_grounds e d.table

-- clear: 1 only for a wrong length
abbrev pub desk_clear_grounds : Desk → List Ground
desk_clear_grounds d = states_unsized d ∷ unsized d.table ∷ []

-- the read of a text: 1 only for a wrong length, then 12
abbrev pub desk_read_grounds : List ℕ → Desk → List Ground
desk_read_grounds text d = states_unsized d ∷ read_grounds text d.table

-- review and state: 1, 3
abbrev pub desk_vertex_grounds : ℕ → Desk → List Ground
desk_vertex_grounds v d = misfit d ∷ dead_vertices (content d) (v ∷ [])

-- release: 1, 3; then 17, 18, unless it is released
abbrev pub release_grounds : ℕ → Desk → List Ground
release_grounds v d =
    let t = content d in
    let ss = d.states in
    misfit d ∷ (dead_vertices t (v ∷ []) ++ map (unless (in_state t ss released v)) (unreviewed t ss v ∷ upstream t ss v))

-- the planner's order: 1, 19
abbrev pub accept_grounds : List ℕ → Desk → List Ground
accept_grounds order d = misfit d ∷ (order_faults (content d) order ++ (short_order (content d) order ∷ []))

-- a listing: 1, 11
abbrev pub desk_listing_grounds : List ℕ → List ℕ → Desk → List Ground
desk_listing_grounds xs lent d = misfit d ∷ no_room xs lent ∷ []
