-- A tray: a list of records, each a kind and a number, withdrawn all or none. Assumes nothing.
use Rattle.std.specs.Prelude.{Bool, false, not, cond, List, map, ℕ, eqb, Option, Some, None, Ok, Err}
use Rattle.layout.specs.declared.Refusal.TheVariants.{BadRecord}
use Rattle.layout.specs.Content.{Table, live_vertices, live_hyperedges, is_live}
use Rattle.layout.specs.Layout.{limit, words}
use Rattle.layout.specs.Answers.{Result, result_of, on_formed}
use Rattle.edits.specs.Results.{first_passing}
use Rattle.removals.specs.Removals.{Removal, vertex, hyperedge, withdrawn}
use Rattle.trays.specs.declared.Withdrawal.{Withdrawal}

-- the kinds: 0 for a vertex, 1 for a hyperedge
abbrev pub vertex_kind : ℕ
vertex_kind = 0

abbrev pub hyperedge_kind : ℕ
hyperedge_kind = 1

-- the record names a live vertex or a live hyperedge
unfoldable pub names_live : Table → Withdrawal → Bool
names_live t w =
    cond (eqb w.kind vertex_kind) (is_live (live_vertices t) w.number)
    (cond (eqb w.kind hyperedge_kind) (is_live (live_hyperedges t) w.number) false)

-- the record is of another kind or not live
unfoldable pub is_faulty : Table → Withdrawal → Bool
is_faulty t w = not (names_live t w)

-- the removal that a record asks for
unfoldable pub asked : Withdrawal → Removal
asked w = cond (eqb w.kind vertex_kind) (vertex w.number) (hyperedge w.number)

-- 15: a faulty record; the position, from 0, of the first
abbrev pub on_faultless : Option ℕ → List ℕ → Result → Result
on_faultless (Some i) lent r = result_of (Err (BadRecord i)) lent
on_faultless None lent r = r

-- withdraw_tray: 1, 15; every record is judged against the table as it stood at the start, then all are carried out
unfoldable pub tray_result : List Withdrawal → List ℕ → Table → Result
tray_result rs ws t = on_faultless (first_passing (is_faulty t) rs) ws (result_of (Ok 0) (words limit (withdrawn (map asked rs) t)))

-- the call: what it answers and leaves
unfoldable pub tray : List Withdrawal → List ℕ → Result
tray rs ws = on_formed ws ws (tray_result rs ws)
