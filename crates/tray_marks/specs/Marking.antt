-- The records of a tray judged one after the other, and marks on what they name. Assumes nothing.
use Rattle.std.specs.Prelude.{◌≡◌, Bool, true, false, not, cond, List, [], ◌∷◌, ℕ, zero, suc, eqb, set, replicate, Option, Some, None}
use Rattle.lists.specs.Tests.{◌and◌}
use Rattle.layout.specs.Content.{Table, live_vertices, live_hyperedges, position}
use Rattle.layout.specs.Layout.{limit, vertex_limit, hyperedge_limit, read}
use Rattle.layout.specs.WellFormed.{well_formed}
use Rattle.layout.specs.Inner.{Formed}
use Rattle.trays.specs.declared.Withdrawal.{Withdrawal}
use Rattle.trays.specs.Trays.{vertex_kind, hyperedge_kind}
use Rattle.tray_marks.specs.declared.Tray.{Tray}

-- a tray that was found on a well-formed table
abbrev pub OpenFormed : Tray → List ℕ → Type 0
OpenFormed tray ws = tray.formed ≡ true → Formed limit ws

-- no mark
unfoldable pub no_marks : ℕ → List Bool
no_marks n = replicate n false

-- before the first record
unfoldable pub opened : List ℕ → Tray
opened ws = record { formed = well_formed limit ws; faulty = false; place = 0; vertices = no_marks vertex_limit; hyperedges = no_marks hyperedge_limit }

-- the record at place i is faulty
unfoldable pub refused_at : Tray → ℕ → Tray
refused_at tray i = record { formed = tray.formed; faulty = true; place = i; vertices = tray.vertices; hyperedges = tray.hyperedges }

-- a search found the vertex, or the hyperedge, that the record at place i names
unfoldable pub vertex_marked : Option ℕ → Tray → ℕ → Tray
vertex_marked (Some k) tray i = record { formed = tray.formed; faulty = tray.faulty; place = tray.place; vertices = set tray.vertices k true; hyperedges = tray.hyperedges }
vertex_marked None tray i = refused_at tray i

unfoldable pub hyperedge_marked : Option ℕ → Tray → ℕ → Tray
hyperedge_marked (Some k) tray i = record { formed = tray.formed; faulty = tray.faulty; place = tray.place; vertices = tray.vertices; hyperedges = set tray.hyperedges k true }
hyperedge_marked None tray i = refused_at tray i

-- the record at place i of a tray with no faulty one before it
unfoldable pub judged_first : Table → Tray → ℕ → Withdrawal → Tray
judged_first t tray i w =
    cond (eqb w.kind vertex_kind) (vertex_marked (position w.number (live_vertices t)) tray i)
    (cond (eqb w.kind hyperedge_kind) (hyperedge_marked (position w.number (live_hyperedges t)) tray i)
    (refused_at tray i))

-- one record more
unfoldable pub judged : List ℕ → Tray → ℕ → Withdrawal → Tray
judged ws tray i w = cond (tray.formed and not tray.faulty) (judged_first (read limit ws) tray i w) tray

-- the records from place i on
unfoldable pub tray_from : List ℕ → ℕ → Tray → List Withdrawal → Tray
tray_from ws i tray [] = tray
tray_from ws i tray (w ∷ rs) = tray_from ws (suc i) (judged ws tray i w) rs

-- every record, in order
unfoldable pub tray_of : List ℕ → List Withdrawal → Tray
tray_of ws rs = tray_from ws zero (opened ws) rs
