-- `live_members::is_live` meets its contract: the hint decides where its place has the number, else the search. Assumes nothing.
use mathlib.Core.Path.{◌∙◌}
use Rattle.formed.proofs.Judged.{hint-live}
use Rattle.find.proofs.Missing.{searched}
use Rattle.live_members.proofs.is_live.Goals as goal

pub returns-then-vertex_number-x : goal.returns-then-vertex_number-x
returns-then-vertex_number-x c = search hint-live

pub returns : goal.returns
returns c = c.is_some.ensures ∙ searched _ _ _ c.find_number.ensures
