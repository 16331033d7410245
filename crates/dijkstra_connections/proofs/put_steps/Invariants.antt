-- `dijkstra_connections::put_steps` meets its contract: `Putting` at each step. Assumes nothing.
use lib.ListN.{take}
use Rattle.layout.specs.Layout.{limit, vertex_count, read}
use Rattle.paths.proofs.Writing.{Putting}
use Rattle.dijkstra_connections.proofs.put_steps.Given as goal

abbrev pub invariant-loop-k : goal.invariant-loop-k
invariant-loop-k l = Putting (read limit l.t) (vertex_count l.t) l.i (take l.steps l.walk) l.initial.out l.k l.a l.out
