-- `vertex_weights::has_weight` meets its contract. Assumes nothing.
use mathlib.Core.Path.{refl}
use native.Mathlib.Omega.{arith}
use Rattle.lookups.specs.Lookups.{has_vertex_weighing}
use Rattle.lookups.proofs.Weights.{weight-on, weight-here, weight-none}
use borrow.Author.Rules.{rules}
use Rattle.vertex_weights.proofs.has_weight.Goals as goal

pub loop-k-init : goal.loop-k-init
unfolding has_vertex_weighing
loop-k-init c = (search rules, refl)

pub returns-then-vertex_weight-weight : goal.returns-then-vertex_weight-weight
returns-then-vertex_weight-weight c = search weight-here

pub loop-k-preserved : goal.loop-k-preserved
loop-k-preserved c = (omega arith, search weight-on)

pub returns : goal.returns
returns c = search weight-none
