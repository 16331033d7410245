-- `formed::all_below` meets its contract: ok says that the words so far are below high. Assumes nothing.
use mathlib.Core.Path.{refl, ◌∙◌}
use native.Mathlib.Omega.{arith}
use borrow.Author.Tests.{lt-ltb, le-ltb}
use Rattle.lists.specs.Lists.{all, is_below}
use Rattle.lists.proofs.All.{first-pass, first-fail, first-all}
use borrow.Author.Rules.{rules}
use Rattle.formed.proofs.all_below.Goals as goal
use Rattle.formed.proofs.all_below.Goals.{then-high-s, else-high-s}

pub loop-i-init : goal.loop-i-init
unfolding all
loop-i-init c = (search rules, refl)

pub loop-i-preserved : goal.loop-i-preserved
loop-i-preserved c = (
  omega arith,
  elim c.if-high-s.branch [ then-high-s w ↦ w.ok-is ∙ first-fail (is_below _) _ _ _ c.loop-i.invariant.1 0 c.loop-i-test.true (le-ltb _ _ w.if-high-s.true) | else-high-s w ↦ w.ok-is ∙ first-pass (is_below _) _ _ _ c.loop-i.invariant.1 0 c.loop-i-test.true (lt-ltb _ _ w.if-high-s.false) ],
)

pub returns : goal.returns
returns c = first-all (is_below _) _ _ _ c.loop-i.invariant.1 c.loop-i-test.false
