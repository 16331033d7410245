-- `help_texts::put_version` meets its contract. Assumes nothing.
use Rattle.help_texts.specs.Help.{version_text}
use borrow.Author.Rules.{rules}
use Rattle.help_texts.proofs.put_version.Goals as goal

pub returns : goal.returns
unfolding version_text
returns c = search rules
