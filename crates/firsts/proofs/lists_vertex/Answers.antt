-- `firsts::lists_vertex` meets its contract. Assumes nothing.
use mathlib.Core.Path.{refl, ◌∙◌}
use Rattle.walk.proofs.FirstPlaces.{seen_here, seen-on, seen_end}
use borrow.Author.Rules.{rules}
use Rattle.firsts.proofs.lists_vertex.Goals as goal
use Rattle.firsts.proofs.lists_vertex.Goals.{then-ms-i, else-ms-i}

pub loop-i-init : goal.loop-i-init
loop-i-init c = (search rules, refl)

pub loop-i-preserved : goal.loop-i-preserved
loop-i-preserved c = (
  search rules,
  elim c.if-ms-i.branch [ then-ms-i w ↦ w.found-is ∙ seen_here _ _ _ _ c.loop-i.invariant.1 c.loop-i-test.true w.if-ms-i.true | else-ms-i w ↦ w.found-is ∙ seen-on _ _ _ _ c.loop-i.invariant.1 c.loop-i-test.true w.if-ms-i.false ],
)

pub returns : goal.returns
returns c = search seen_end
