-- `query_titles::put_title` meets its contract. Assumes nothing.
use Rattle.query_titles.specs.Titles.{title}
use Rattle.query_titles.proofs.Cases.{as-titled}
use Rattle.query_titles.proofs.put_title.Goals as goal

pub returns-in-Sort : goal.returns-in-Sort
unfolding title
returns-in-Sort c = search as-titled

pub returns-in-Costs : goal.returns-in-Costs
unfolding title
returns-in-Costs c = search as-titled

pub returns-in-Upstream : goal.returns-in-Upstream
unfolding title
returns-in-Upstream c = search as-titled

pub returns-in-Downstream : goal.returns-in-Downstream
unfolding title
returns-in-Downstream c = search as-titled

pub returns-in-Next : goal.returns-in-Next
unfolding title
returns-in-Next c = search as-titled

pub returns-in-Before : goal.returns-in-Before
unfolding title
returns-in-Before c = search as-titled

pub returns-in-Components : goal.returns-in-Components
unfolding title
returns-in-Components c = search as-titled

pub returns-in-Strong : goal.returns-in-Strong
unfolding title
returns-in-Strong c = search as-titled

pub returns-in-Closure : goal.returns-in-Closure
unfolding title
returns-in-Closure c = search as-titled

pub returns-in-Cut : goal.returns-in-Cut
unfolding title
returns-in-Cut c = search as-titled

pub returns-in-Orphans : goal.returns-in-Orphans
unfolding title
returns-in-Orphans c = search as-titled

pub returns-in-Endpoints : goal.returns-in-Endpoints
unfolding title
returns-in-Endpoints c = search as-titled

pub returns-in-FindTube : goal.returns-in-FindTube
unfolding title
returns-in-FindTube c = search as-titled

pub returns-in-FindTransfer : goal.returns-in-FindTransfer
unfolding title
returns-in-FindTransfer c = search as-titled

pub returns-in-Walk : goal.returns-in-Walk
unfolding title
returns-in-Walk c = search as-titled
