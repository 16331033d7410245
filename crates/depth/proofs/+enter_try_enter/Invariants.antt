-- `depth::enter` and `depth::try_enter`: the measure is that of numbers that are not marked, then neighbours that are not tried.
use Rattle.std.proofs.Common.{◌+◌, ◌*◌}
use Rattle.graph.specs.Reach.{matrix}
use Rattle.depth.specs.Went.{free, Going}
use Rattle.depth.proofs.Went.{entering}
use Rattle.depth.proofs.+enter_try_enter.Given as goal

abbrev pub decreases-enter : goal.decreases-enter
decreases-enter l = free l.n l.marks.now * 257

abbrev pub decreases-try_enter : goal.decreases-try_enter
decreases-try_enter l = free l.n l.marks.now * 257 + l.k

abbrev pub invariant-enter-loop-k : goal.invariant-enter-loop-k
invariant-enter-loop-k l = Going (entering (matrix l.adj) l.n l.x) l.n l.initial.marks l.initial.out (l.t + 1) l.marks l.out l.end l.k

abbrev pub decreases-enter-loop-k : goal.decreases-enter-loop-k
decreases-enter-loop-k l = l.k
