-- `vertex_weights::mark_weighing` meets its contract. Assumes nothing.
use mathlib.Core.Bool.{Bool, false}
use native.Mathlib.Omega.{arith}
use lib.ListN.{length-replicate}
use Rattle.layout.specs.Layout.{vertex_limit}
use Rattle.lookups.proofs.Weights.{weighed-none, weighed-more, weighed-end}
use borrow.Author.Rules.{rules}
use Rattle.vertex_weights.proofs.mark_weighing.Goals as goal

pub loop-k-init : goal.loop-k-init
loop-k-init c = (search rules, weighed-none _ _ _ (length-replicate {A = Bool} vertex_limit false))

pub loop-k-preserved : goal.loop-k-preserved
loop-k-preserved c = (omega arith, weighed-more c.loop-k.invariant.1 _ c.vertex_weight.ensures (omega arith))

pub returns : goal.returns
returns c = weighed-end c.loop-k.invariant.1 _ c.loop-k-test.false
