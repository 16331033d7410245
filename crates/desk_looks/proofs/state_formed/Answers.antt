-- `desk_looks::state_formed` meets its contract. Assumes nothing.
use Rattle.desk.specs.Releases.{state_result}
use Rattle.desk_looks.proofs.Shown.{state-told}
use Rattle.desk_fits.proofs.Looked.{state-within}
use Rattle.layout.proofs.Answers.{asked-missing, taken}
use Rattle.desk_looks.proofs.state_formed.Goals as goal

pub state_at-requires : goal.state_at-requires
state_at-requires c = search (state-within, taken _ _ _ c.ok_or.ensures.value _ c.in_ok-i.was)

pub returns-in_err-i : goal.returns-in_err-i
unfolding state_result
returns-in_err-i c = search (asked-missing, c.in_err-i.was)

pub returns : goal.returns
returns c = search (state-told, taken _ _ _ c.ok_or.ensures.value _ c.in_ok-i.was)
