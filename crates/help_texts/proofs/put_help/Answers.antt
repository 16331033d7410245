-- `help_texts::put_help` meets its contract. Assumes nothing.
use Rattle.help_texts.specs.Help.{call_lines, command_lines, file_lines}
use Rattle.help_texts.proofs.Help.{help-put}
use Rattle.help_texts.proofs.put_help.Goals as goal

pub returns : goal.returns
unfolding call_lines command_lines file_lines
returns c = search help-put
