-- `desk_anew::desk_clear` meets its contract. Assumes nothing.
use Rattle.desk_anew.proofs.Anew.{states-unsized, states-anew}
use Rattle.desk_anew.proofs.desk_clear.Goals as goal

pub returns-then-s-ne-VERTEX_LIMIT : goal.returns-then-s-ne-VERTEX_LIMIT
returns-then-s-ne-VERTEX_LIMIT c = search states-unsized

pub returns : goal.returns
returns c = search states-anew
