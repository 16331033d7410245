-- What each change answers and leaves, and what it says. Assumes nothing.
use Rattle.std.specs.Prelude.{Bool, cond, List, [], map, ℕ, eqb, Ok}
use Rattle.layout.specs.Answers.{Answer}
use Rattle.layout.specs.Answers.{number, detail}
use Rattle.trays.specs.Trays.{vertex_kind, hyperedge_kind}
use Rattle.calls.specs.Calls.{add_vertex, add_hyperedge, update, merge, withdraw}
use Rattle.desk.specs.States.{state_of}
use Rattle.desk.specs.Desk.{Desk, Outcome, content, desk_edit}
use Rattle.desk.specs.Releases.{on_desk, review_result}
use Rattle.desk.specs.Calls.{signed}
use Rattle.desk_numbers.specs.Numbers.{of_kind, release_numbers_result}
use Rattle.wording.specs.Pages.{Page, write}
use Rattle.entry_sheets.specs.Entries.{number_alone, tube_said, transfer_said, relist_said}
use Rattle.effect_sheets.specs.Effects.{tubes_said, transfers_said, merged_said}
use Rattle.state_sheets.specs.Signed.{review_said, releases_said}
use Rattle.commands.specs.declared.Change.{Change}
use Rattle.commands.specs.declared.Change.TheVariants.{Tube, Transfer, Relist, WithdrawTubes, WithdrawTransfers, Merge, Review, Release}

-- ---- at the desk

-- the call that a change makes; the list has the members, or the numbers of a tray or of releases
abbrev pub changed : Change → List ℕ → Desk → Outcome
changed (Tube w) list d = desk_edit (add_vertex w) d
changed (Transfer w) list d = desk_edit (add_hyperedge list w) d
changed (Relist e) list d = desk_edit (update e.0 list) d
changed WithdrawTubes list d = desk_edit (withdraw (map (of_kind vertex_kind) list)) d
changed WithdrawTransfers list d = desk_edit (withdraw (map (of_kind hyperedge_kind) list)) d
changed (Merge v w) list d = desk_edit (merge v.0 w.0) d
changed (Review v) list d = signed d (on_desk d d.states (review_result v.0 d.states))
changed Release list d = signed d (on_desk d d.states (release_numbers_result list d.states))

-- ---- on the page: d is the desk before, o what the call left

-- in words
abbrev pub said : Change → List ℕ → Desk → Outcome → List ℕ
said (Tube w) list d o = tube_said o.detail w
said (Transfer w) list d o = transfer_said o.detail (content d).next_hyperedge w list
said (Relist e) list d o = relist_said e.0 list
said WithdrawTubes list d o = tubes_said list (content d) (content o.desk)
said WithdrawTransfers list d o = transfers_said list
said (Merge v w) list d o = merged_said v.0 w.0 (content d) (content o.desk)
said (Review v) list d o = review_said (state_of (content d) d.states v.0) v.0
said Release list d o = releases_said (content d) d.states list

-- in numbers alone: the one that was given or found
abbrev pub plainly : Change → Outcome → List ℕ
plainly (Tube w) o = number_alone o.detail
plainly (Transfer w) o = number_alone o.detail
plainly (Relist e) o = []
plainly WithdrawTubes o = []
plainly WithdrawTransfers o = []
plainly (Merge v w) o = []
plainly (Review v) o = []
plainly Release o = []

abbrev pub sheet : Bool → Change → List ℕ → Desk → Outcome → List ℕ
sheet plain c list d o = cond plain (plainly c o) (said c list d o)

-- ---- the change

-- what a call leaves that writes on a page: number, detail, desk, and the bytes of the page
pub record Told : Type 0 where
  pub number : ℕ
  pub detail : ℕ
  pub desk : Desk
  pub lent : List ℕ

-- an answer, and what it leaves
abbrev pub told : Answer → Desk → List ℕ → Told
told a d bytes = record { number = number a; detail = detail a; desk = d; lent = bytes }

-- done: the detail is the place of the next byte
abbrev pub written : Desk → Page → Told
written d p = told (Ok p.next) d p.bytes

-- refused as the call was: nothing changes, and nothing is written
abbrev pub unwritten : Outcome → Desk → Page → Told
unwritten o d p = record { number = o.number; detail = o.detail; desk = d; lent = p.bytes }

-- make_change
unfoldable pub change_told : Bool → Change → List ℕ → Desk → Page → Told
change_told plain c list d p =
    let o = changed c list d in
    cond (eqb o.number 0) (written o.desk (write (sheet plain c list d o) p)) (unwritten o d p)
