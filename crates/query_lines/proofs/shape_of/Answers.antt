-- `query_lines::shape_of` meets its contract. Assumes nothing.
use Rattle.query_lines.specs.Queries.{shape}
use Rattle.query_lines.proofs.Cases.{as-shaped}
use Rattle.query_lines.proofs.shape_of.Goals as goal

pub returns-in-Sort : goal.returns-in-Sort
unfolding shape
returns-in-Sort c = search as-shaped

pub returns-in-Costs : goal.returns-in-Costs
unfolding shape
returns-in-Costs c = search as-shaped

pub returns-in-Upstream : goal.returns-in-Upstream
unfolding shape
returns-in-Upstream c = search as-shaped

pub returns-in-Downstream : goal.returns-in-Downstream
unfolding shape
returns-in-Downstream c = search as-shaped

pub returns-in-Next : goal.returns-in-Next
unfolding shape
returns-in-Next c = search as-shaped

pub returns-in-Before : goal.returns-in-Before
unfolding shape
returns-in-Before c = search as-shaped

pub returns-in-Components : goal.returns-in-Components
unfolding shape
returns-in-Components c = search as-shaped

pub returns-in-Strong : goal.returns-in-Strong
unfolding shape
returns-in-Strong c = search as-shaped

pub returns-in-Closure : goal.returns-in-Closure
unfolding shape
returns-in-Closure c = search as-shaped

pub returns-in-Cut : goal.returns-in-Cut
unfolding shape
returns-in-Cut c = search as-shaped

pub returns-in-Orphans : goal.returns-in-Orphans
unfolding shape
returns-in-Orphans c = search as-shaped

pub returns-in-Endpoints : goal.returns-in-Endpoints
unfolding shape
returns-in-Endpoints c = search as-shaped

pub returns-in-FindTube : goal.returns-in-FindTube
unfolding shape
returns-in-FindTube c = search as-shaped

pub returns-in-FindTransfer : goal.returns-in-FindTransfer
unfolding shape
returns-in-FindTransfer c = search as-shaped

pub returns-in-Walk : goal.returns-in-Walk
unfolding shape
returns-in-Walk c = search as-shaped
