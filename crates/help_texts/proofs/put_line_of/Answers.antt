-- `help_texts::put_line_of` meets its contract. Assumes nothing.
use Rattle.help_texts.proofs.Help.{line_of}
use Rattle.help_texts.proofs.put_line_of.Goals as goal

pub returns : goal.returns
returns c = search line_of
