-- `commands::find_name` meets its contract: what is left of the names says of all. Assumes nothing.
use Rattle.commands.proofs.Names.{names-first, names-none, name-here, name-on}
use Rattle.commands.specs.Commands.{named}
use borrow.Author.Rules.{rules}
use Rattle.commands.proofs.find_name.Goals as goal

pub loop-k-init : goal.loop-k-init
unfolding named
loop-k-init c = (search rules, names-first _)

pub returns-then-opening-ne0 : goal.returns-then-opening-ne0
returns-then-opening-ne0 c = search name-here

pub loop-k-preserved : goal.loop-k-preserved
loop-k-preserved c = (search rules, search name-on)

pub returns : goal.returns
returns c = search names-none
