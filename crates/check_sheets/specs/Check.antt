-- The sheet of a check. Assumes nothing.
use Rattle.std.specs.Prelude.{Bool, true, false, List, [], ◌∷◌, ◌++◌, ℕ, length}
use Rattle.lists.specs.Tests.{bit}
use Rattle.layout.specs.Content.{Table}
use Rattle.structural.specs.Components.{connected}
use Rattle.structural.specs.Sort.{acyclic}
use Rattle.wording.specs.Texts.{text}
use Rattle.wording.specs.Forms.{filled}

-- yes or no, in words
unfoldable pub yes_no : Bool → List ℕ
yes_no true = text "yes"
yes_no false = text "no"

-- the numbers of a check: both counts, both next numbers, and whether the table is connected and can be sorted
unfoldable pub checked : Table → List ℕ
checked t =
    length t.vertices ∷ length t.hyperedges ∷ t.next_vertex ∷ t.next_hyperedge ∷ bit (connected t) ∷ bit (acyclic t) ∷ []

-- in words
unfoldable pub check_lines : List ℕ → Bool → Bool → List ℕ
check_lines ns linked sortable =
    filled (text "well formed: A tubes, B transfers, next tube C, next transfer D\n") ns []
    ++ (filled (text "  connected U\n") ns (yes_no linked) ++ filled (text "  can be sorted U\n") ns (yes_no sortable))

-- the sheet; plain: numbers only
unfoldable pub check_sheet : Bool → Table → List ℕ
check_sheet false t = check_lines (checked t) (connected t) (acyclic t)
check_sheet true t = filled (text "A B C D E F\n") (checked t) []
