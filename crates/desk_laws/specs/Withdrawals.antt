-- What is demanded of removals, through the desk. Assumes nothing.
use Rattle.std.specs.Prelude.{◌≡◌, true, List, map, ℕ}
use Rattle.layout.specs.Content.{live_vertices, is_live}
use Rattle.removals.specs.Orders.{Permutes}
use Rattle.removals.specs.Removals.{Removal, remove_all}
use Rattle.calls.specs.Calls.{remove, an_edit}
use Rattle.desk.specs.States.{state_of}
use Rattle.desk.specs.Desk.{Desk, content, desk_fits}
use Rattle.desk.specs.Calls.{DeskCall, through, after_desk}

-- a removal through the desk
abbrev pub removing : Removal → DeskCall
removing r = through (an_edit (remove r))

-- the desk after one call for each of the list
abbrev pub desk_remove_all : List Removal → Desk → Desk
desk_remove_all rs d = after_desk (map removing rs) d

-- what any list of removals, one call after the other, leaves of a desk
pub record DeskWithdraws (rs : List Removal) (d : Desk) : Type 0 where
  -- a table again, and states that fit it
  pub fits : desk_fits (desk_remove_all rs d) ≡ true
  -- the same table and the same states in every order
  pub any_order : (ss : List Removal) → Permutes rs ss → desk_remove_all ss d ≡ desk_remove_all rs d
  -- the table that the removals leave without the desk
  pub table_is : (desk_remove_all rs d).table ≡ remove_all rs d.table
  -- each survivor has the state that it had
  pub survivors : (v : ℕ) → is_live (live_vertices (content (desk_remove_all rs d))) v ≡ true
      → state_of (content (desk_remove_all rs d)) (desk_remove_all rs d).states v ≡ state_of (content d) d.states v
