-- What each look writes and answers. Assumes nothing.
use Rattle.std.specs.Prelude.{Bool, List, ℕ}
use Rattle.layout.specs.Content.{Table}
use Rattle.layout.specs.Answers.{Result}
use Rattle.desk.specs.Desk.{Desk}
use Rattle.desk.specs.Releases.{on_desk}
use Rattle.wording.specs.Pages.{Page, write}
use Rattle.saying.specs.Saying.{paged}
use Rattle.commands.specs.declared.Look.{Look}
use Rattle.commands.specs.declared.Look.TheVariants.{Check, Show, ShowTube, ShowTransfer, Path, States, Order}
use Rattle.check_sheets.specs.Check.{check_sheet}
use Rattle.desk_sheets.specs.Sheets.{show_sheet, tube_result, transfer_result, states_sheet, order_result}
use Rattle.path_sheets.specs.Path.{path_result}

-- what a look writes and answers, of the content; ss are the states
-- ShowTube: 3. ShowTransfer: 4. Path: 3 for the first tube, 3 for the second. Order: 19
unfoldable pub seen : Look → List ℕ → Bool → List ℕ → Page → Table → Result
seen Check list plain ss p t = paged (write (check_sheet plain t) p)
seen Show list plain ss p t = paged (write (show_sheet plain ss t) p)
seen (ShowTube v) list plain ss p t = tube_result plain v.0 ss p t
seen (ShowTransfer e) list plain ss p t = transfer_result plain e.0 p t
seen (Path a b) list plain ss p t = path_result plain a.0 b.0 p t
seen States list plain ss p t = paged (write (states_sheet plain ss t) p)
seen Order list plain ss p t = order_result plain list p t

-- 1 where the table is not well formed or the states don't fit it, before all else
unfoldable pub look_result : Look → List ℕ → Bool → Desk → Page → Result
look_result look list plain d p = on_desk d p.bytes (seen look list plain d.states p)
