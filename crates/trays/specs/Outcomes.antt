-- Trays accepted and refused, and trays that end alike. Assumes nothing.
use Rattle.std.specs.Prelude.{◌≡◌, Bool, true, false, List, map, ℕ, ◌<◌, length, get_or, take}
use Rattle.lists.specs.Lists.{all, any}
use Rattle.layout.specs.Content.{Table}
use Rattle.layout.specs.Layout.{limit, read}
use Rattle.edits.specs.Results.{members_of}
use Rattle.removals.specs.Removals.{stays_vertex}
use Rattle.trays.specs.declared.Withdrawal.{Withdrawal}
use Rattle.trays.specs.Trays.{vertex_kind, names_live, is_faulty, asked, tray}

-- ---- one tray

-- the words after the call
abbrev pub left : List Withdrawal → List ℕ → List ℕ
left rs ws = (tray rs ws).lent

-- it is accepted: the call answers 0
abbrev pub Accepted : List Withdrawal → List ℕ → Type 0
Accepted rs ws = (tray rs ws).number ≡ 0

-- it is refused for a record: the call answers 15
abbrev pub Refused : List Withdrawal → List ℕ → Type 0
Refused rs ws = (tray rs ws).number ≡ 15

-- every record names what is live in the table as it stood at the start
unfoldable pub all_live : List Withdrawal → List ℕ → Bool
all_live rs ws = all (names_live (read limit ws)) rs

-- what stands for a record at a place where there is none
abbrev pub no_record : Withdrawal
no_record = record { kind = vertex_kind; number = 0 }

-- the first faulty record stands at place i, counted from 0
pub record FirstFaulty (i : ℕ) (rs : List Withdrawal) (t : Table) : Type 0 where
  pub within : i < length rs
  pub faulty : is_faulty t (get_or rs i no_record) ≡ true
  pub before : all (names_live t) (take i rs) ≡ true

-- the tray withdraws every member of hyperedge x
abbrev pub Empties : List Withdrawal → ℕ → List ℕ → Type 0
Empties rs x ws = any (stays_vertex (map asked rs)) (members_of x (read limit ws).hyperedges) ≡ false

-- ---- two trays

-- they have the same records, in whatever order and however often: a test passes at some of the one exactly when at some of the other
abbrev pub SameRecords : List Withdrawal → List Withdrawal → Type 0
SameRecords rs ss = (p : Withdrawal → Bool) → any p rs ≡ any p ss

-- they are answered with the same number, and leave the same words
pub record SameEnd (rs ss : List Withdrawal) (ws : List ℕ) : Type 0 where
  pub number : (tray rs ws).number ≡ (tray ss ws).number
  pub words : left rs ws ≡ left ss ws
