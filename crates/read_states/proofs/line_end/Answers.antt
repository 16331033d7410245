-- `read_states::line_end` meets its contract. Assumes nothing.
use Rattle.read_states.proofs.Lines.{line_first, line-feed, line_on, line-last}
use borrow.Author.Rules.{rules}
use Rattle.read_states.proofs.line_end.Goals as goal

pub loop-i-init : goal.loop-i-init
loop-i-init c = (search rules, search rules, search line_first)

pub returns-then-text-i-eq10 : goal.returns-then-text-i-eq10
returns-then-text-i-eq10 c = search line-feed

pub loop-i-preserved : goal.loop-i-preserved
loop-i-preserved c = (search rules, search rules, search line_on)

pub returns : goal.returns
returns c = search line-last
