-- `desk_looks::list_formed` meets its contract. Assumes nothing.
use Rattle.desk_looks.proofs.Shown.{state-listed}
use Rattle.desk_looks.proofs.list_formed.Goals as goal

pub returns : goal.returns
returns c = search state-listed
