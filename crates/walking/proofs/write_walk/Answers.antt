-- `walking::write_walk` meets its contract. Assumes nothing.
use Rattle.walk.proofs.Walked.{wrote_none, wrote-more, wrote-end}
use borrow.Author.Rules.{rules}
use Rattle.walking.proofs.write_walk.Goals as goal

pub loop-i-init : goal.loop-i-init
loop-i-init c = wrote_none _ _ _ _

pub loop-i-preserved : goal.loop-i-preserved
loop-i-preserved c = search wrote-more

pub shape_of-out : goal.shape_of-out
shape_of-out c = c.loop-i.invariant.same

pub returns : goal.returns
returns c = wrote-end _ _ _ _ _ _ _ _ c.loop-i.invariant (search rules)
