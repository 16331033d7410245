-- `depth::visit` and `depth::try_step`: the measure is that of numbers that are not marked, then neighbours that are not tried.
use Rattle.std.proofs.Common.{◌+◌, ◌*◌}
use Rattle.graph.specs.Reach.{matrix}
use Rattle.depth.specs.Went.{free, Going}
use Rattle.depth.proofs.Went.{visiting}
use Rattle.depth.proofs.+try_step_visit.Given as goal

abbrev pub decreases-try_step : goal.decreases-try_step
decreases-try_step l = free l.n l.marks.now * 257 + l.k

abbrev pub decreases-visit : goal.decreases-visit
decreases-visit l = free l.n l.marks.now * 257

abbrev pub invariant-visit-loop-k : goal.invariant-visit-loop-k
invariant-visit-loop-k l = Going (visiting (matrix l.adj) l.n l.x) l.n l.initial.marks l.initial.out l.t l.marks l.out l.end l.k

abbrev pub decreases-visit-loop-k : goal.decreases-visit-loop-k
decreases-visit-loop-k l = l.k
