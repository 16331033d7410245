-- `side_by_side::find_side_by_side` meets its contract: what is left of the search is the whole of it. Assumes nothing.
use mathlib.Core.Path.{refl}
use Rattle.edits.specs.Results.{first_passing}
use Rattle.edits.proofs.Passing.{passing-on, passing-here, passing-none}
use borrow.Author.Rules.{rules}
use Rattle.side_by_side.proofs.find_side_by_side.Goals as goal

pub loop-j-init : goal.loop-j-init
unfolding first_passing
loop-j-init c = (search rules, search rules, refl)

pub returns-then-beside_in : goal.returns-then-beside_in
returns-then-beside_in c = search passing-here

pub loop-j-preserved : goal.loop-j-preserved
loop-j-preserved c = (search rules, search rules, search passing-on)

pub returns : goal.returns
returns c = search passing-none
