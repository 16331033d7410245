-- Sheets as they read, computed. Assumes nothing.
use mathlib.Core.Path.{◌≡◌, refl}
use mathlib.Core.List.{List, [], ◌∷◌}
use Prim.Native.Nat.{ℕ}
use Rattle.lists.specs.Tests.{◌and◌}
use Rattle.lists.specs.Lists.{same_list, flat}
use Rattle.layout.specs.Content.{Hyperedge, Table, vertex_of, hyperedge_of, position_from, position}
use Rattle.edits.specs.Results.{members_of}
use Rattle.desk.specs.States.{state_in, in_state}
use Rattle.wording.specs.Texts.{text, spelled, decimal}
use Rattle.wording.specs.Forms.{within, wide_at, meant, filled, joined, number_line}
use Rattle.entry_sheets.specs.Entries.{number_alone, tube_said, identical_said, recorded_said, transfer_said, relist_said}
use Rattle.effect_sheets.specs.Effects.{relisted, emptied, effect, effects, withdrawn_said, tubes_said, transfers_said, merged_said}
use Rattle.state_sheets.specs.Signed.{review_form, review_said, release_said, releases_said}

-- a table of tubes 0, 3 and 7 with these transfers
abbrev holding : List Hyperedge → Table
holding es = record { next_vertex = 8; next_hyperedge = 5; vertices = vertex_of 0 4711 ∷ vertex_of 3 2 ∷ vertex_of 7 2 ∷ []; hyperedges = es }

abbrev before : Table
before = holding (hyperedge_of 1 9 (0 ∷ 3 ∷ []) ∷ hyperedge_of 2 9 (0 ∷ 7 ∷ []) ∷ hyperedge_of 4 9 (3 ∷ []) ∷ [])

-- the sheets as they are written, and as the definitions compute them
abbrev written : List (List ℕ)
written =
    text "5\n"
    ∷ text "tube 5 registered, weight 4711\n"
    ∷ text "transfer 2 recorded, cost 4, tubes 0 1 2\n"
    ∷ text "transfer 2 is identical, nothing recorded\n"
    ∷ text "transfer 2 now lists tubes 0 1 2\n"
    ∷ text "tube 3 withdrawn; transfer 1 keeps 0; transfer 4 withdrawn (emptied)\n"
    ∷ text "tubes 3 5 withdrawn\n"
    ∷ text "transfer 2 withdrawn\n"
    ∷ text "transfers 2 3 withdrawn\n"
    ∷ text "tube 7 merged into tube 3; transfer 2 lists 0 3\n"
    ∷ text "tube 3 reviewed\n"
    ∷ text "tube 3 is reviewed already\n"
    ∷ text "tube 3 is released already\n"
    ∷ text "tube 7 released\ntube 3 is released already\n"
    ∷ []

abbrev computed : List (List ℕ)
computed =
    number_alone 5
    ∷ tube_said 5 4711
    ∷ transfer_said 2 2 4 (0 ∷ 1 ∷ 2 ∷ [])
    ∷ transfer_said 2 3 4 (0 ∷ 1 ∷ 2 ∷ [])
    ∷ relist_said 2 (0 ∷ 1 ∷ 2 ∷ [])
    ∷ tubes_said (3 ∷ []) before (holding (hyperedge_of 1 9 (0 ∷ []) ∷ hyperedge_of 2 9 (0 ∷ 7 ∷ []) ∷ []))
    ∷ tubes_said (3 ∷ 5 ∷ []) before before
    ∷ transfers_said (2 ∷ [])
    ∷ transfers_said (2 ∷ 3 ∷ [])
    ∷ merged_said 3 7 before (holding (hyperedge_of 1 9 (0 ∷ 3 ∷ []) ∷ hyperedge_of 2 9 (0 ∷ 3 ∷ []) ∷ hyperedge_of 4 9 (3 ∷ []) ∷ []))
    ∷ review_said 0 3
    ∷ review_said 1 3
    ∷ review_said 2 3
    ∷ releases_said before (0 ∷ 2 ∷ 1 ∷ []) (7 ∷ 3 ∷ [])
    ∷ []

pub sheets-read : computed ≡ written
unfolding number_alone tube_said identical_said recorded_said transfer_said relist_said relisted emptied effect effects withdrawn_said tubes_said transfers_said merged_said review_form review_said release_said releases_said filled meant within wide_at joined number_line decimal spelled flat same_list members_of position_from position state_in in_state ◌and◌
sheets-read = refl
