-- `dijkstra_from::list_costs` meets its contract. Assumes nothing.
use mathlib.Core.Path.{refl}
use Prim.Native.Nat.{ℕ}
use native.Mathlib.Omega.{arith}
use lib.ListN.{length-replicate, get_or-replicate}
use Rattle.layout.specs.Layout.{limit, read}
use Rattle.steps.specs.Matrices.{number_of}
use Rattle.paths.proofs.Values.{values-within}
use Rattle.paths.proofs.Numbers.{cost-words}
use Rattle.paths.proofs.Writing.{costs-over, costs-fits}
use borrow.Author.Rules.{rules}
use Rattle.dijkstra_from.proofs.list_costs.Goals as goal

pub choices-requires : goal.choices-requires
choices-requires c = record { formed = search rules; weights = (search rules, length-replicate {A = ℕ} 65536 0) }

pub dijkstra-requires : goal.dijkstra-requires
dijkstra-requires c = (
  omega (arith, c.vertex_count-n.ensures, c.requires.formed.shape.vertices-le),
  omega (arith, c.vertex_count-n.ensures, c.requires.i_bound),
  refl,
  refl,
  λ v l. get_or-replicate {A = ℕ} 256 v 0 0 (omega (arith, c.vertex_count-n.ensures, c.requires.formed.shape.vertices-le)),
  c.choices.ensures.1,
  values-within c.choices.ensures.0 c.requires.formed.shape.vertices-le _ c.vertex_count-n.ensures,
)

pub overflow_mul-needed : goal.overflow_mul-needed
overflow_mul-needed c = omega (arith, c.count_reached-needed.ensures.1, c.vertex_count-n.ensures, c.requires.formed.shape.vertices-le)

pub returns-then-out-needed : goal.returns-then-out-needed
returns-then-out-needed c =
    costs-over c.args.t.now (number_of (read limit c.args.t.now) c.args.i) _ _
    (cost-words c.requires.formed _ c.weights.ensures _ c.choices.ensures.0 c.args.i c.requires.i_bound _ c.vertex_count-n.ensures _ _ c.dijkstra.ensures)
    _ _ c.vertex_count-n.ensures c.count_reached-needed.ensures.0 _ c.if-out-needed.true

pub put_costs-requires : goal.put_costs-requires
put_costs-requires c = record { formed = c.requires.formed; n_value = (c.vertex_count-n.ensures, omega (arith, c.count_reached-needed.ensures.0, c.if-out-needed.false)) }

pub returns : goal.returns
returns c =
    costs-fits c.args.t.now (number_of (read limit c.args.t.now) c.args.i) _ _
    (cost-words c.requires.formed _ c.weights.ensures _ c.choices.ensures.0 c.args.i c.requires.i_bound _ c.vertex_count-n.ensures _ _ c.dijkstra.ensures)
    _ _ c.vertex_count-n.ensures c.count_reached-needed.ensures.0 _ c.if-out-needed.false _ c.put_costs.ensures
