-- `withdraw_marked::is_spared` meets its contract. Assumes nothing.
use Rattle.marks.proofs.Marked.{marked-in}
use Rattle.withdraw_marked.proofs.Spared.{spared-none, spared-at}
use Rattle.withdraw_marked.proofs.is_spared.Goals as goal

pub bounds-vertices-k : goal.bounds-vertices-k
bounds-vertices-k c = search marked-in

pub returns-in-None : goal.returns-in-None
returns-in-None c = search spared-none

pub returns-in-Some : goal.returns-in-Some
returns-in-Some c = search spared-at
