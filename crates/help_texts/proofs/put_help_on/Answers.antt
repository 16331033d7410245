-- `help_texts::put_help_on` meets its contract. Assumes nothing.
use Rattle.help_texts.specs.Help.{command_lines}
use Rattle.help_texts.proofs.Help.{line-put}
use Rattle.help_texts.proofs.put_help_on.Goals as goal

pub returns : goal.returns
unfolding command_lines
returns c = search line-put
