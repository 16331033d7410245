-- `command_words::value` meets its contract: the worth of what is left is that of the word. Assumes nothing.
use Rattle.command_words.proofs.Values.{value_none, value-first, value_low, value-high, value-over, value-more, value-end}
use borrow.Author.Rules.{rules}
use Rattle.command_words.proofs.value.Goals as goal

pub returns-then-word-eq0 : goal.returns-then-word-eq0
returns-then-word-eq0 c = search value_none

pub loop-i-init : goal.loop-i-init
loop-i-init c = (search rules, search rules, search value-first)

pub returns-then-c-lt48 : goal.returns-then-c-lt48
returns-then-c-lt48 c = search value_low

pub returns-then-c-gt57 : goal.returns-then-c-gt57
returns-then-c-gt57 c = search value-high

pub returns-then-n-gt-LARGEST : goal.returns-then-n-gt-LARGEST
returns-then-n-gt-LARGEST c = search value-over

pub loop-i-preserved : goal.loop-i-preserved
loop-i-preserved c = (search rules, search rules, search value-more)

pub returns : goal.returns
returns c = search value-end
