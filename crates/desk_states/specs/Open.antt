-- What an edit through the desk tests before the edit of the table tests it. Assumes nothing.
use Rattle.std.specs.Prelude.{Bool, eqb, leb, length}
use Rattle.lists.specs.Tests.{◌and◌}
use Rattle.layout.specs.Layout.{limit, vertex_limit, size, vertex_count}
use Rattle.desk.specs.States.{states_fit}
use Rattle.desk.specs.Desk.{Desk}

-- the table has its length, its count of vertices is at most 256, and the states fit that count
unfoldable pub is_open : Desk → Bool
is_open d =
    eqb (length d.table) (size limit)
    and leb (vertex_count d.table) vertex_limit
    and states_fit (vertex_count d.table) d.states
