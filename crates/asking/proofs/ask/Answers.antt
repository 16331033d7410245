-- `asking::ask` meets its contract. Assumes nothing.
use Rattle.asking.specs.Asking.{asked}
use Rattle.asking.proofs.Asked.{as-asked}
use Rattle.asking.proofs.ask.Goals as goal

pub returns-in-Sort : goal.returns-in-Sort
unfolding asked
returns-in-Sort c = search as-asked

pub returns-in-Costs : goal.returns-in-Costs
unfolding asked
returns-in-Costs c = search as-asked

pub returns-in-Upstream : goal.returns-in-Upstream
unfolding asked
returns-in-Upstream c = search as-asked

pub returns-in-Downstream : goal.returns-in-Downstream
unfolding asked
returns-in-Downstream c = search as-asked

pub returns-in-Next : goal.returns-in-Next
unfolding asked
returns-in-Next c = search as-asked

pub returns-in-Before : goal.returns-in-Before
unfolding asked
returns-in-Before c = search as-asked

pub returns-in-Components : goal.returns-in-Components
unfolding asked
returns-in-Components c = search as-asked

pub returns-in-Strong : goal.returns-in-Strong
unfolding asked
returns-in-Strong c = search as-asked

pub returns-in-Closure : goal.returns-in-Closure
unfolding asked
returns-in-Closure c = search as-asked

pub returns-in-Cut : goal.returns-in-Cut
unfolding asked
returns-in-Cut c = search as-asked

pub returns-in-Orphans : goal.returns-in-Orphans
unfolding asked
returns-in-Orphans c = search as-asked

pub returns-in-Endpoints : goal.returns-in-Endpoints
unfolding asked
returns-in-Endpoints c = search as-asked

pub returns-in-FindTube : goal.returns-in-FindTube
unfolding asked
returns-in-FindTube c = search as-asked

pub returns-in-FindTransfer : goal.returns-in-FindTransfer
unfolding asked
returns-in-FindTransfer c = search as-asked

pub returns-in-Walk : goal.returns-in-Walk
unfolding asked
returns-in-Walk c = search as-asked
