-- A tray whose records are all judged, carried out. Assumes nothing.
use Rattle.std.specs.Prelude.{cond, List, ℕ, Ok, Err}
use Rattle.layout.specs.declared.Refusal.TheVariants.{NotWellFormed, BadRecord}
use Rattle.layout.specs.Layout.{limit, read, words}
use Rattle.layout.specs.Answers.{Result, result_of}
use Rattle.tray_marks.specs.declared.Tray.{Tray}
use Rattle.withdraw_marked.specs.Sparing.{unmarked_of}

-- 1, then 15, then the table without what is marked
unfoldable pub carried_out : Tray → List ℕ → Result
carried_out tray ws =
    cond tray.formed
    (cond tray.faulty (result_of (Err (BadRecord tray.place)) ws) (result_of (Ok 0) (words limit (unmarked_of tray.vertices tray.hyperedges (read limit ws)))))
    (result_of (Err NotWellFormed) ws)
