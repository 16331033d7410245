-- `hyperedge_lines::list_live` meets its contract. Assumes nothing.
use mathlib.Core.Path.{refl}
use Rattle.reader.proofs.Live.{list_on, list-no, list-end}
use borrow.Author.Rules.{rules}
use Rattle.hyperedge_lines.proofs.list_live.Goals as goal

pub loop-i-init : goal.loop-i-init
loop-i-init c = (search rules, refl)

pub returns-then-not-is_live : goal.returns-then-not-is_live
returns-then-not-is_live c = search list-no

pub loop-i-preserved : goal.loop-i-preserved
loop-i-preserved c = (search rules, search list_on)

pub returns : goal.returns
returns c = search list-end
