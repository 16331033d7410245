-- `commands::find_exact` meets its contract: what is left of the names says of all. Assumes nothing.
use Rattle.commands.proofs.Names.{names-first, names-none, exact_none, exact-here, exact-on}
use Rattle.lists.proofs.Cases.{not_none}
use borrow.Author.Rules.{rules}
use Rattle.commands.proofs.find_exact.Goals as goal

pub returns-then-bytes-eq0 : goal.returns-then-bytes-eq0
returns-then-bytes-eq0 c = search exact_none

pub loop-k-init : goal.loop-k-init
loop-k-init c = (search rules, search not_none, names-first _)

pub returns-then-opening-bytes : goal.returns-then-opening-bytes
returns-then-opening-bytes c = search exact-here

pub loop-k-preserved : goal.loop-k-preserved
loop-k-preserved c = (search rules, search rules, search exact-on)

pub returns : goal.returns
returns c = search names-none
