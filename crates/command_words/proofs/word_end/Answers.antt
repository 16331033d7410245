-- `command_words::word_end` meets its contract: the end of the word that is left is the end of the word. Assumes nothing.
use mathlib.Core.Path.{refl}
use Rattle.command_words.proofs.Values.{word-here, word_on_lem, word-last}
use borrow.Author.Rules.{rules}
use Rattle.command_words.proofs.word_end.Goals as goal

pub loop-i-init : goal.loop-i-init
loop-i-init c = (search rules, refl)

pub returns-then-line-i-eq32 : goal.returns-then-line-i-eq32
returns-then-line-i-eq32 c = search word-here

pub loop-i-preserved : goal.loop-i-preserved
loop-i-preserved c = (search rules, search word_on_lem)

pub returns : goal.returns
returns c = search word-last
